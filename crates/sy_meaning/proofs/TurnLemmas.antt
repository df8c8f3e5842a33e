-- Each ask and each call takes one turn.
use Rattle.std.proofs.Common.{ap, arith, refl, sym, ◌∙◌}
use Rattle.std.proofs.lemmas.Bool.{eq-eqb, eqb-false, ne_eqb}
use Rattle.std.specs.Prelude.{Bool, List, [], false, if◌then◌else◌, true, ℕ, ◌+◌, ◌-◌, ◌==◌, ◌∷◌, ◌≡◌}
use Rattle.sy_work.specs.declared.asks.Answer.{Answer}
use Rattle.sy_work.specs.declared.asks.Ask.{Ask}
use Rattle.sy_meaning.specs.declared.outcomes.Evaluated.TheVariants.{Stopped}
use Rattle.sy_meaning.specs.declared.outcomes.Reply.TheVariants as reply
use Rattle.sy_meaning.specs.declared.outcomes.Reply.{Reply}
use Rattle.sy_meaning.specs.declared.runs.Run.{Run}
use Rattle.sy_meaning.specs.declared.runs.World.{World}
use Rattle.sy_meaning.specs.Outcomes.{Ex, Replied, answered, ask, asked, on_turn, spent, turn}

not_answered : (a : Ask) (w v : World) (x : Answer) → ◌≡◌ {A = Replied} (reply.Stopped a, w) (reply.Answered x, v) → ⊥
not_answered a w v x e = let d : ◌≡◌ {A = Reply} (reply.Stopped a) (reply.Answered x) = ap (λ p. p.0) e in absurd cc

answered_takes : (a : Ask) (xs : List Answer) (w v : World) (x : Answer) → answered a xs w ≡ (reply.Answered x, v) → (v.turns ≡ w.turns) × (xs ≡ x ∷ v.feed)
answered_takes a [] w v x e = absurd (not_answered a w v x e)
answered_takes a (y ∷ ys) w v x e =
    let t = ap (λ p. p.1.turns) e in
    let f = ap (λ p. p.1.feed) e in
    let d : ◌≡◌ {A = Reply} (reply.Answered y) (reply.Answered x) = ap (λ p. p.0) e in
    let z : y ≡ x = cc in
    (sym t, ap (λ u. u ∷ ys) z ∙ ap (λ us. x ∷ us) f)

asked_takes : (line : ℕ) (a : Ask) (w v : World) (x : Answer) (c : Bool) → (c ≡ false → w.turns ≡ 0 → ⊥) → asked line a (if c then (false, w) else (true, record w { turns = w.turns - 1 })) ≡ (reply.Answered x, v) → (v.turns + 1 ≡ w.turns) × (w.feed ≡ x ∷ v.feed)
asked_takes line a w v x true h e = absurd (not_answered (spent line w) w v x e)
asked_takes line a w v x false h e =
    let p = answered_takes a w.feed (record w { turns = w.turns - 1 }) v x e in
    (omega (arith, p.0, h refl), p.1)

pub ask_takes : (line : ℕ) (a : Ask) (w v : World) (x : Answer) → ask line a w ≡ (reply.Answered x, v) → (v.turns + 1 ≡ w.turns) × (w.feed ≡ x ∷ v.feed)
ask_takes line a w v x e = asked_takes line a w v x (w.turns == 0) (λ c z. eqb-false w.turns 0 c z) e

call_with : (line : ℕ) (go : Ex) (r : Run) (n : ℕ) (c : Bool) → c ≡ false → r.world.turns - 1 ≡ n → on_turn line r (if c then (false, r.world) else (true, record (r.world) { turns = r.world.turns - 1 })) go ≡ go (record r { world = record (r.world) { turns = n } })
call_with line go r n true c e = absurd cc
call_with line go r n false c e = ap (λ k. go (record r { world = record (r.world) { turns = k } })) e

pub call_takes : (line : ℕ) (go : Ex) (r : Run) (n : ℕ) → r.world.turns ≡ n + 1 → on_turn line r (turn r.world) go ≡ go (record r { world = record (r.world) { turns = n } })
call_takes line go r n e = call_with line go r n (r.world.turns == 0) (ne_eqb r.world.turns 0 (λ z. omega (arith, z, e))) (omega (arith, e))

call_without : (line : ℕ) (go : Ex) (r : Run) (c : Bool) → c ≡ true → on_turn line r (if c then (false, r.world) else (true, record (r.world) { turns = r.world.turns - 1 })) go ≡ (Stopped (spent line r.world), r)
call_without line go r true c = refl
call_without line go r false c = absurd cc

pub last_turn : (line : ℕ) (go : Ex) (r : Run) → r.world.turns ≡ 0 → on_turn line r (turn r.world) go ≡ (Stopped (spent line r.world), r)
last_turn line go r e = call_without line go r (r.world.turns == 0) (eq-eqb r.world.turns 0 e)
