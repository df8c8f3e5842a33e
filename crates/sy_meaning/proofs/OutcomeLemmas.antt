-- What goes on after a part leads on, where each part does.
use Rattle.std.proofs.Common.{refl, sym, ap, ◌∙◌, subst, arith}
use Rattle.std.specs.Prelude.{Bool, List, None, Option, Result, Ok, Err, Some, [], drop, false, if◌then◌else◌, is_some, true, zero, suc, ℕ, ℤ, ◌+◌, ◌-◌, ◌==◌, ◌∷◌, ◌≡◌, ◌≤◌, ◌++◌, ⊤}
use Rattle.std.proofs.lemmas.Bool.{eqb-false}
use Rattle.sy_num.specs.Scalars.{Scalar}
use Rattle.sy_num.specs.declared.Undefined.{Undefined}
use Rattle.sy_work.specs.declared.asks.Answer.{Answer}
use Rattle.sy_work.specs.declared.asks.Answer.TheVariants as answer
use Rattle.sy_work.specs.declared.asks.Ask.{Ask}
use Rattle.sy_work.specs.declared.asks.Ask.TheVariants as asks
use Rattle.sy_work.specs.declared.asks.Halt.{Halt}
use Rattle.sy_work.specs.declared.asks.Halt.TheVariants as halt
use Rattle.sy_work.specs.declared.endings.Cause.TheVariants as cause
use Rattle.sy_work.specs.declared.asks.Errc.{Errc}
use Rattle.sy_meaning.specs.declared.outcomes.Evaluated.{Evaluated}
use Rattle.sy_meaning.specs.declared.outcomes.Evaluated.TheVariants.{Gives, Stopped, Threw}
use Rattle.sy_meaning.specs.declared.outcomes.Flow.TheVariants as flow
use Rattle.sy_meaning.specs.declared.outcomes.Reply.TheVariants as reply
use Rattle.sy_meaning.specs.declared.runs.Run.{Run}
use Rattle.sy_meaning.specs.declared.runs.World.{World}
use Rattle.sy_meaning.specs.Words.{Object}
use Rattle.sy_meaning.specs.Outcomes.{Ex, Flowed, Listed, Op, Replied, St, Valued, and_then, answered, ask, asked, computed, contents_of, each, each_after, for_contents, for_done, for_number, in_turn, one_more, spent, then_do, throws, with_list, with_value}
use Rattle.sy_meaning.specs.Turns.{ExLeads, Fed, OpLeads, StLeads, Taken, feed_of, flow_stop, all_answers, list_stop, reply_stop, stop_of}

none_left : (k : ℕ) → drop {A = Answer} k [] ≡ []
none_left zero = refl
none_left (suc k) = refl

drop_drop : (n m : ℕ) (xs : List Answer) → drop n (drop m xs) ≡ drop (m + n) xs
drop_drop n m [] = ap (drop n) (none_left m) ∙ (none_left n ∙ sym (none_left (m + n)))
drop_drop n zero (x ∷ xs) = ap (λ k. drop k (x ∷ xs)) (omega arith)
drop_drop n (suc m) (x ∷ xs) =
    let e : suc (m + n) ≡ suc m + n = omega arith in
    subst (λ k. drop n (drop m xs) ≡ drop k (x ∷ xs)) e (drop_drop n m xs)

pub same : {xs : Fed} {n : ℕ} → Taken xs n None xs n
same = record { count = 0; from_front = refl; by_turns = omega arith; at_end = λ w. absurd w; noted = refl }

-- a turn is taken
pub spending : {xs : Fed} (n : ℕ) → Taken xs n None xs (n - 1)
spending n = record { count = 0; from_front = refl; by_turns = omega arith; at_end = λ w. absurd w; noted = refl }

pub halted : {xs : Fed} {n : ℕ} {h : Halt} → Taken xs n (Some (asks.Halt h)) xs n
halted = record { count = 0; from_front = refl; by_turns = omega arith; at_end = λ w. absurd w; noted = refl }

either_halt : {xs : Fed} {n : ℕ} (c : Bool) (h i : Halt) → Taken xs n (Some (if c then asks.Halt h else asks.Halt i)) xs n
either_halt true h i = halted
either_halt false h i = halted

-- where no turn is left
pub at_last : {xs : Fed} {n : ℕ} (line : ℕ) (w : World) → Taken xs n (Some (spent line w)) xs n
at_last line w = either_halt (is_some w.at) (halt.Trapped cause.Turns line) (halt.TurnsSpent line)

pub after : {xs ys zs : Fed} {n m k : ℕ} {s : Option Ask} → Taken xs n None ys m → Taken ys m s zs k → Taken xs n s zs k
after {xs} p q =
    record { count = p.count + q.count; from_front = q.from_front ∙ (ap (drop q.count) p.from_front ∙ drop_drop q.count p.count xs.0); by_turns = omega (arith, p.by_turns, q.by_turns); at_end = λ w. let e = q.at_end w in (e.0, omega (arith, p.by_turns, e.1)); noted = q.noted ∙ p.noted }

-- ---- going on

pub goes : {xs : Fed} {n : ℕ} (a : Valued) (go : Object → Ex) → Taken xs n (stop_of a.0) (feed_of a.1.world) a.1.world.turns → ((o : Object) → ExLeads (go o)) → Taken xs n (stop_of (and_then a go).0) (feed_of (and_then a go).1.world) (and_then a go).1.world.turns
goes {xs} {n} (Gives o, r) go p q = after p (q o r)
goes {xs} {n} (Threw e l, r) go p q = p
goes {xs} {n} (Stopped a, r) go p q = p

pub goes_world : {xs : Fed} {n : ℕ} (a : Evaluated × World) (go : Object → Op) → Taken xs n (stop_of a.0) (feed_of a.1) a.1.turns → ((o : Object) → OpLeads (go o)) → Taken xs n (stop_of (and_then a go).0) (feed_of (and_then a go).1) (and_then a go).1.turns
goes_world {xs} {n} (Gives o, r) go p q = after p (q o r)
goes_world {xs} {n} (Threw e l, r) go p q = p
goes_world {xs} {n} (Stopped a, r) go p q = p

pub valued : {xs : Fed} {n : ℕ} (a : Valued) (go : Object → St) → Taken xs n (stop_of a.0) (feed_of a.1.world) a.1.world.turns → ((o : Object) → StLeads (go o)) → Taken xs n (flow_stop (with_value a go).0) (feed_of (with_value a go).1.world) (with_value a go).1.world.turns
valued {xs} {n} (Gives o, r) go p q = after p (q o r)
valued {xs} {n} (Threw e l, r) go p q = p
valued {xs} {n} (Stopped a, r) go p q = p

pub does : {xs : Fed} {n : ℕ} (a : Flowed) (go : St) → Taken xs n (flow_stop a.0) (feed_of a.1.world) a.1.world.turns → StLeads go → Taken xs n (flow_stop (then_do a go).0) (feed_of (then_do a go).1.world) (then_do a go).1.world.turns
does {xs} {n} (flow.Normal, r) go p q = after p (q r)
does {xs} {n} (f, r) go p q = p

pub listed : {xs : Fed} {n : ℕ} (a : Listed) (go : List Object → Ex) → Taken xs n (list_stop a.0) (feed_of a.2.world) a.2.world.turns → ((os : List Object) → ExLeads (go os)) → Taken xs n (stop_of (with_list a go).0) (feed_of (with_list a go).1.world) (with_list a go).1.world.turns
listed {xs} {n} (None, os, r) go p q = after p (q os r)
listed {xs} {n} (Some v, os, r) go p q = p

pub chosen : {xs : Fed} {n : ℕ} (c : Bool) (a b : Evaluated × World) → Taken xs n (stop_of a.0) (feed_of a.1) a.1.turns → Taken xs n (stop_of b.0) (feed_of b.1) b.1.turns → Taken xs n (stop_of (if c then a else b).0) (feed_of (if c then a else b).1) (if c then a else b).1.turns
chosen {xs} {n} true a b p q = p
chosen {xs} {n} false a b p q = q

pub chosen_run : {xs : Fed} {n : ℕ} (c : Bool) (a b : Valued) → Taken xs n (stop_of a.0) (feed_of a.1.world) a.1.world.turns → Taken xs n (stop_of b.0) (feed_of b.1.world) b.1.world.turns → Taken xs n (stop_of (if c then a else b).0) (feed_of (if c then a else b).1.world) (if c then a else b).1.world.turns
chosen_run {xs} {n} true a b p q = p
chosen_run {xs} {n} false a b p q = q

-- ---- errors, turns and asks

pub throwing : (e : Errc) (line : ℕ) → OpLeads (throws e line)
throwing e line w = search (chosen, same, halted)

answering : (a : Ask) (xs : List Answer) (v : World) (n : ℕ) → v.feed ≡ xs → v.turns + 1 ≤ n → Taken (xs, v.asked) n (reply_stop (answered a xs v).0) (feed_of (answered a xs v).1) (answered a xs v).1.turns
answering a [] v n e h = record { count = 0; from_front = e; by_turns = omega (arith, h); at_end = λ w. (e, omega (arith, h)); noted = ap (λ ys. all_answers (ys, v.asked)) e }
answering a (x ∷ xs) v n e h = record { count = 1; from_front = refl; by_turns = omega (arith, h); at_end = λ w. absurd w; noted = refl }

asking_by : (line : ℕ) (a : Ask) (w : World) (b : Bool) → (b ≡ false → w.turns ≡ 0 → ⊥) → Taken (feed_of w) w.turns (reply_stop (asked line a (if b then (false, w) else (true, record w { turns = w.turns - 1 }))).0) (feed_of (asked line a (if b then (false, w) else (true, record w { turns = w.turns - 1 }))).1) (asked line a (if b then (false, w) else (true, record w { turns = w.turns - 1 }))).1.turns
asking_by line a w true h = at_last line w
asking_by line a w false h = answering a w.feed (record w { turns = w.turns - 1 }) w.turns refl (omega (arith, h refl))

left_over : (n : ℕ) → (n == 0) ≡ false → n ≡ 0 → ⊥
left_over n e z = eqb-false n 0 e z

-- an ask takes its turn, and the first of the answers
pub asking : (line : ℕ) (a : Ask) (w : World) → Taken (feed_of w) w.turns (reply_stop (ask line a w).0) (feed_of (ask line a w).1) (ask line a w).1.turns
asking line a w = asking_by line a w (w.turns == 0) (left_over w.turns)

pub numbered : {xs : Fed} {n : ℕ} (line : ℕ) (a : Replied) (go : ℕ → Op) → Taken xs n (reply_stop a.0) (feed_of a.1) a.1.turns → ((k : ℕ) → OpLeads (go k)) → Taken xs n (stop_of (for_number line a go).0) (feed_of (for_number line a go).1) (for_number line a go).1.turns
numbered {xs} {n} line (reply.Answered (answer.Number k), w) go p q = after p (q k w)
numbered {xs} {n} line (reply.Answered (answer.Refused e), w) go p q = after p (throwing e line w)
numbered {xs} {n} line (reply.Answered a, w) go p q = after p (q 0 w)
numbered {xs} {n} line (reply.Stopped a, w) go p q = p

pub with_contents : {xs : Fed} {n : ℕ} (a : Replied) (go : List ℤ → Op) → Taken xs n (reply_stop a.0) (feed_of a.1) a.1.turns → ((zs : List ℤ) → OpLeads (go zs)) → Taken xs n (stop_of (for_contents a go).0) (feed_of (for_contents a go).1) (for_contents a go).1.turns
with_contents {xs} {n} (reply.Answered a, w) go p q = after p (q (contents_of a) w)
with_contents {xs} {n} (reply.Stopped a, w) go p q = p

pub when_done : {xs : Fed} {n : ℕ} (a : Replied) (go : Op) → Taken xs n (reply_stop a.0) (feed_of a.1) a.1.turns → OpLeads go → Taken xs n (stop_of (for_done a go).0) (feed_of (for_done a go).1) (for_done a go).1.turns
when_done {xs} {n} (reply.Answered a, w) go p q = after p (q w)
when_done {xs} {n} (reply.Stopped a, w) go p q = p

pub computing : (line : ℕ) (a : Result Scalar Undefined) → ExLeads (computed line a)
computing line (Ok x) r = same
computing line (Err u) r = halted

-- ---- lists of expressions and statements

abbrev pub AllLead : List Ex → Type 0
AllLead [] = ⊤
AllLead (e ∷ es) = ExLeads e × AllLead es

abbrev pub AllLeadOn : List St → Type 0
AllLeadOn [] = ⊤
AllLeadOn (s ∷ ss) = StLeads s × AllLeadOn ss

one_more_leads : {xs : Fed} {n : ℕ} (a : Valued) (os : List Object) (go : List Object → Run → Listed) → Taken xs n (stop_of a.0) (feed_of a.1.world) a.1.world.turns → ((ps : List Object) (r : Run) → Taken (feed_of r.world) r.world.turns (list_stop (go ps r).0) (feed_of (go ps r).2.world) (go ps r).2.world.turns) → Taken xs n (list_stop (one_more a os go).0) (feed_of (one_more a os go).2.world) (one_more a os go).2.world.turns
one_more_leads {xs} {n} (Gives o, r) os go p q = after p (q (os ++ o ∷ []) r)
one_more_leads {xs} {n} (Threw e l, r) os go p q = p
one_more_leads {xs} {n} (Stopped a, r) os go p q = p

each_after_leads : (es : List Ex) → AllLead es → (os : List Object) (r : Run) → Taken (feed_of r.world) r.world.turns (list_stop (each_after es os r).0) (feed_of (each_after es os r).2.world) (each_after es os r).2.world.turns
each_after_leads [] h os r = same
each_after_leads (e ∷ es) h os r = one_more_leads (e r) os (each_after es) (h.0 r) (each_after_leads es h.1)

pub each_leads : (es : List Ex) → AllLead es → (r : Run) → Taken (feed_of r.world) r.world.turns (list_stop (each es r).0) (feed_of (each es r).2.world) (each es r).2.world.turns
each_leads es h r = each_after_leads es h [] r

pub in_turn_leads : (ss : List St) → AllLeadOn ss → StLeads (in_turn ss)
in_turn_leads [] h r = same
in_turn_leads (s ∷ ss) h r = does (s r) (in_turn ss) (h.0 r) (in_turn_leads ss h.1)
