-- A loop never comes to the end of its rounds.
use Rattle.std.proofs.Common.{◌∙◌, ap, arith, refl}
use Rattle.std.proofs.lemmas.Bool.{eqb-false}
use Rattle.std.specs.Prelude.{Bool, None, Option, Some, false, if◌then◌else◌, suc, true, zero, ℕ, ◌+◌, ◌-◌, ◌==◌, ◌≡◌, ◌≤◌}
use Rattle.sy_meaning.specs.declared.outcomes.Evaluated.TheVariants.{Gives, Stopped, Threw}
use Rattle.sy_meaning.specs.declared.outcomes.Flow.TheVariants as flow
use Rattle.sy_meaning.specs.declared.outcomes.Flow.{Flow}
use Rattle.sy_meaning.specs.declared.runs.Run.{Run}
use Rattle.sy_meaning.specs.Words.{is_zero}
use Rattle.sy_meaning.specs.Outcomes.{St, Valued, spent}
use Rattle.sy_meaning.specs.Expressions.{Exp, full}
use Rattle.sy_meaning.specs.Statements.{Again, Statement, after_body, again, do_once, for_once, loop, on_round, round, rounds, scoped, step_of, tested, turned, while_once}
use Rattle.sy_meaning.specs.Turns.{ExpLeads, IsRepeated, MaybeExp, MaybeStatement, StLeads, TakesTurn}
use Rattle.sy_meaning.proofs.OutcomeLemmas.{same}
use Rattle.sy_meaning.proofs.RunLemmas.{full_leads}
use Rattle.sy_meaning.proofs.StatementLemmas.{RoundLeads, after_body_leads, scoped_leads, step_leads, tested_leads}

-- ---- with more rounds than turns the result is the same

again_same : (a : Again) (f g : St) → ((s : Run) → a ≡ (None, s) → f s ≡ g s) → again a f ≡ again a g
again_same (None, s) f g h = h s refl
again_same (Some x, s) f g h = refl

rounds_same : (once : Run → Again) → TakesTurn once → (n m : ℕ) (r : Run) → r.world.turns + 1 ≤ n → r.world.turns + 1 ≤ m → rounds n once r ≡ rounds m once r
rounds_same once t zero m r h k = absurd (omega (arith, h))
rounds_same once t (suc n) zero r h k = absurd (omega (arith, k))
rounds_same once t (suc n) (suc m) r h k =
    again_same (once r) (rounds n once) (rounds m once) (λ s e. rounds_same once t n m s (omega (arith, t r s e, h)) (omega (arith, t r s e, k)))

pub loop_repeats : (once : Run → Again) → TakesTurn once → IsRepeated once
loop_repeats once t r =
    rounds_same once t (r.world.turns + 1) (suc r.world.turns) r (omega arith) (omega arith) ∙ again_same (once r) (rounds r.world.turns once) (loop once) (λ s e. rounds_same once t r.world.turns (s.world.turns + 1) s (t r s e) (omega arith))

-- ---- each round takes a turn

not_ready : (f : Flow) (q s : Run) → ◌≡◌ {A = Again} (Some f, q) (None, s) → ⊥
not_ready f q s e = let d : ◌≡◌ {A = Option Flow} (Some f) None = ap (λ a. a.0) e in absurd cc

turned_takes : (line : ℕ) (b : St) → StLeads b → (r : Run) (c : Bool) → (c ≡ false → r.world.turns ≡ 0 → ⊥) → (s : Run) → turned line r (if c then (false, r.world) else (true, record (r.world) { turns = r.world.turns - 1 })) b ≡ (None, s) → s.world.turns + 1 ≤ r.world.turns
turned_takes line b h r true p s e = absurd (not_ready (flow.Stopped (spent line r.world)) r s e)
turned_takes line b h r false p s e =
    let q : Run = record r { world = record (r.world) { turns = r.world.turns - 1 } } in
    let fell = after_body_leads (b q) (h q) in
    let there = ap (λ a. a.1.world.turns) e in
    omega (arith, fell.by_turns, there, p refl)

pub round_takes : (line : ℕ) (b : St) → StLeads b → TakesTurn (round line b)
round_takes line b h r s e = turned_takes line b h r (r.world.turns == 0) (λ c z. eqb-false r.world.turns 0 c z) s e

chosen_takes : (n : ℕ) (c : Bool) (r : Run) (a : Again) → ((s : Run) → a ≡ (None, s) → s.world.turns + 1 ≤ n) → (s : Run) → (if c then (Some flow.Normal, r) else a) ≡ (None, s) → s.world.turns + 1 ≤ n
chosen_takes n true r a h s e = absurd (not_ready flow.Normal r s e)
chosen_takes n false r a h s e = h s e

tested_takes : (n : ℕ) (a : Valued) (go : Run → Again) → a.1.world.turns ≤ n → TakesTurn go → (s : Run) → tested a go ≡ (None, s) → s.world.turns + 1 ≤ n
tested_takes n (Gives v, r) go p t s e = chosen_takes n (is_zero v) r (go r) (λ q d. omega (arith, t r q d, p)) s e
tested_takes n (Threw x l, r) go p t s e = absurd (not_ready (flow.Threw x l) r s e)
tested_takes n (Stopped a, r) go p t s e = absurd (not_ready (flow.Stopped a) r s e)

on_round_takes : (n : ℕ) (a : Again) (go : Run → Again) → ((q : Run) → a ≡ (None, q) → q.world.turns + 1 ≤ n) → RoundLeads go → (s : Run) → on_round a go ≡ (None, s) → s.world.turns + 1 ≤ n
on_round_takes n (None, q) go t h s e =
    let fell = h q in
    let there = ap (λ a. a.1.world.turns) e in
    omega (arith, t q refl, fell.by_turns, there)
on_round_takes n (Some f, q) go t h s e = absurd (not_ready f q s e)

once_takes : (line : ℕ) (c : Option Exp) (b : St) → MaybeExp c → StLeads b → TakesTurn (while_once line c b)
once_takes line None b h p r s e = round_takes line b p r s e
once_takes line (Some c) b h p r s e =
    let fell = full_leads c h r in
    tested_takes r.world.turns (full c r) (round line b) (omega (arith, fell.by_turns)) (round_takes line b p) s e

pub while_repeats : (line : ℕ) (c : Exp) (b : Statement) → ExpLeads c → StLeads b.run → IsRepeated (while_once line (Some c) (scoped b))
while_repeats line c b h p =
    loop_repeats (while_once line (Some c) (scoped b)) (once_takes line (Some c) (scoped b) h (scoped_leads b p))

do_takes : (line : ℕ) (c : Exp) (b : St) → ExpLeads c → StLeads b → TakesTurn (do_once line c b)
do_takes line c b h p r s e =
    on_round_takes r.world.turns (round line b r) (λ q. tested (full c q) (λ r. (None, r))) (round_takes line b p r) (λ q. tested_leads (full c q) (λ r. (None, r)) (full_leads c h q) (λ t. same)) s e

pub do_repeats : (line : ℕ) (c : Exp) (b : Statement) → ExpLeads c → StLeads b.run → IsRepeated (do_once line c (scoped b))
do_repeats line c b h p = loop_repeats (do_once line c (scoped b)) (do_takes line c (scoped b) h (scoped_leads b p))

for_takes : (line : ℕ) (c : Option Exp) (step b : St) → MaybeExp c → StLeads step → StLeads b → TakesTurn (for_once line c step b)
for_takes line c step b h p q r s e =
    on_round_takes r.world.turns (while_once line c b r) (λ q. after_body (step q)) (once_takes line c b h q r) (λ t. after_body_leads (step t) (p t)) s e

pub for_repeats : (line : ℕ) (c : Option Exp) (step : Option Statement) (b : Statement) → MaybeExp c → MaybeStatement step → StLeads b.run → IsRepeated (for_once line c (step_of step) (scoped b))
for_repeats line c step b h p q =
    loop_repeats (for_once line c (step_of step) (scoped b)) (for_takes line c (step_of step) (scoped b) h (step_leads step p) (scoped_leads b q))
