-- A step of the state that has caught up, made on a state that lags behind.
use Rattle.std.proofs.Common.{◌≡◌, ℕ, zero, suc, ◌<◌, List, [], ◌∷◌, ◌++◌, length, map, Bool, true, false, Option, Some, None, refl, sym, ap, ◌∙◌, subst, arith}
use Rattle.std.specs.Prelude.{slice_get, nat_lt, if◌then◌else◌, ◌&&◌, ◌^◌, option_map}
use Rattle.std.proofs.lemmas.Bool.Decides.{nat_tests}
use Rattle.std.proofs.lemmas.Option.{slice_get-map}
use Rattle.sy_work.specs.Programs.{OutcomeOf, Program}
use Rattle.sy_work.specs.declared.asks.Ask.{Ask}
use Rattle.sy_work.specs.declared.asks.Ask.TheVariants.{ThrowQueue}
use Rattle.sy_onecopy.specs.declared.Waits.{Waits}
use Rattle.sy_onecopy.specs.declared.Waits.TheVariants.{Ready as NoWait}
use Rattle.sy_onecopy.specs.State.{Board, State, Thread, start, ask_of, ask_by, next_ask}
use Rattle.sy_onecopy.specs.Settle.{settle}
use Rattle.sy_onecopy.specs.Step.{given, give_all, once_heard, hear, hear_all, threads_after, hear_answers, turn, step}
use Rattle.sy_onecopy.specs.Sequence.{is_clear, goes_on, ready_at, may_step, is_legal, seq_from, seq}
use Rattle.sy_settling.specs.Orderly.{IsOrderly}
use Rattle.sy_settling.proofs.ListLemmas.{some_is, and_true}
use Rattle.sy_settling.proofs.AlikeLemmas.{alike-settle}
use Rattle.sy_lagging.specs.Lagging.{catch_up, after_ask}
use Rattle.sy_settling.proofs.DeferredLemmas.{Asking, settle-still, settle-asking}
use Rattle.sy_lagging.proofs.HearLemmas.{catch_up-ask}

-- ---- what the state that has caught up tells of its threads

give-ready : (d : Board) (t : ℕ) → slice_get d.waits t ≡ Some NoWait → slice_get (give_all d).waits t ≡ Some NoWait
unfolding give_all
give-ready d t g = slice_get-map (given d) d.waits t ∙ ap (option_map (given d)) g

hear_all-ready : (ws : List Waits) (xs : List Thread) (t : ℕ) → slice_get ws t ≡ Some NoWait → slice_get (hear_all ws xs) t ≡ slice_get xs t
hear_all-ready [] xs t g = refl
hear_all-ready (w ∷ ws) [] t g = refl
hear_all-ready (w ∷ ws) (x ∷ xs) zero g = ap (λ v. Some (hear v x)) (some_is g)
hear_all-ready (w ∷ ws) (x ∷ xs) (suc t) g = hear_all-ready ws xs t g

pub catch_up-ready : (out : OutcomeOf) (s : State) (t : ℕ) → IsOrderly s.board → slice_get s.board.waits t ≡ Some NoWait → slice_get (catch_up out s).board.waits t ≡ Some NoWait
catch_up-ready out s t o g =
    let c = settle out s.board in
    let r = give-ready c t (settle-still out s.board t NoWait o refl g) in
    slice_get-map once_heard (give_all c).waits t ∙ ap (option_map once_heard) r

pub catch_up-thread : (out : OutcomeOf) (s : State) (t : ℕ) → IsOrderly s.board → slice_get s.board.waits t ≡ Some NoWait → slice_get (catch_up out s).threads t ≡ slice_get s.threads t
catch_up-thread out s t o g =
    let c = settle out s.board in
    hear_all-ready (give_all c).waits s.threads t (give-ready c t (settle-still out s.board t NoWait o refl g))

pub next_is : (p : Program) (s : State) (t : ℕ) (x : Thread) → slice_get s.threads t ≡ Some x → next_ask p s t ≡ ask_of p.next x
next_is p s t x g = ap (ask_by p.next) g

clear-told : (d : Board) (q : Ask) (ws : List Waits) → is_clear d q ≡ true → is_clear (record d { waits = ws }) q ≡ true
clear-told d (ThrowQueue q) ws h = h
clear-told d q ws h = h

give-clear : (d : Board) (q : Ask) → is_clear d q ≡ true → is_clear (give_all d) q ≡ true
unfolding give_all
give-clear d q h = clear-told d q (map (given d) d.waits) h

pub catch_up-clear : (out : OutcomeOf) (s : State) (t : ℕ) (q : Ask) → Asking s.board t q → is_clear (catch_up out s).board q ≡ true
catch_up-clear out s t q a =
    let c = settle out s.board in
    clear-told (give_all c) q (map once_heard (give_all c).waits) (give-clear c q (settle-asking out s.board t q a).clear)

-- ---- the run goes on

give-kept : (d : Board) → (give_all d).ended ≡ d.ended
unfolding give_all
give-kept d = refl

give-steps : (d : Board) → (give_all d).steps ≡ d.steps
unfolding give_all
give-steps d = refl

pub catch_up-ended : (out : OutcomeOf) (s : State) → (catch_up out s).board.ended ≡ s.board.ended
catch_up-ended out s = give-kept (settle out s.board) ∙ sym (alike-settle out s.board).ended

pub catch_up-steps : (out : OutcomeOf) (s : State) → (catch_up out s).board.steps ≡ s.board.steps
catch_up-steps out s = give-steps (settle out s.board) ∙ sym (alike-settle out s.board).steps

-- ---- one more step

pub record Both (a b : Bool) : Type 0 where
  pub first : a ≡ true
  pub second : b ≡ true

legal_here : (p : Program) (s m : State) (v : Bool) (rest : Option State) → (if v then rest else None) ≡ Some m → (v ≡ true) × (rest ≡ Some m)
legal_here p s m true rest h = (refl, h)
legal_here p s m false rest h = absurd cc

pub seq_from-more : (p : Program) (s m : State) (ts : List ℕ) (t : ℕ) → seq_from p s ts ≡ Some m → is_legal p m t ≡ true → seq_from p s (ts ++ t ∷ []) ≡ Some (step p m t)
seq_from-more p s m [] t h legal =
    let e : s ≡ m = some_is h in
    ap (λ z. if is_legal p z t then Some (step p z t) else None) e ∙ ap (λ v. if v then Some (step p m t) else None) legal
seq_from-more p s m (u ∷ us) t h legal =
    let r = legal_here p s m (is_legal p s u) (seq_from p (step p s u) us) h in
    ap (λ v. if v then seq_from p (step p s u) (us ++ t ∷ []) else None) r.0 ∙ seq_from-more p (step p s u) m us t r.1 legal

legal_by : (p : Program) (s : State) (t : ℕ) (q : Ask) → next_ask p s t ≡ q → goes_on s.board ≡ true → slice_get s.board.waits t ≡ Some NoWait → is_clear s.board q ≡ true → s.board.steps < 2 ^ 24 → is_legal p s t ≡ true
unfolding may_step
legal_by p s t q n g r c l =
    and_true (goes_on s.board && (ready_at (slice_get s.board.waits t) && is_clear s.board (next_ask p s t))) (nat_lt s.board.steps (2 ^ 24))
    (and_true (goes_on s.board) (ready_at (slice_get s.board.waits t) && is_clear s.board (next_ask p s t)) g
    (and_true (ready_at (slice_get s.board.waits t)) (is_clear s.board (next_ask p s t)) (ap ready_at r) (ap (is_clear s.board) n ∙ c)))
    (let z : s.board.steps < 2 ^ 24 = l in grind (arith, nat_tests))

-- the ask of a thread on a state that lags behind is the step of the state that has caught up
pub step-catch_up : (p : Program) (s : State) (t : ℕ) (x : Thread) → Asking s.board t (ask_of p.next x) → length s.threads ≡ length s.board.waits → slice_get s.threads t ≡ Some x → step p (catch_up p.outcome s) t ≡ catch_up p.outcome (after_ask s t (ask_of p.next x))
unfolding step
step-catch_up p s t x a m g =
    let c = catch_up p.outcome s in
    let q = ask_of p.next x in
    let n : next_ask p c t ≡ q = next_is p c t x (catch_up-thread p.outcome s t a.orderly a.ready ∙ g) in
    ap (λ r. let d = turn p.outcome c.board t r in hear_answers d (threads_after d r c.threads)) n ∙ catch_up-ask p.outcome s t q a m

-- the ask of a thread lengthens the order, and the state that lags behind stands for the longer one
pub asks-stand : (p : Program) (order : List ℕ) (s : State) (t : ℕ) (x : Thread) → seq p order ≡ Some (catch_up p.outcome s) → Asking s.board t (ask_of p.next x) → length s.threads ≡ length s.board.waits → slice_get s.threads t ≡ Some x → goes_on (catch_up p.outcome s).board ≡ true → s.board.steps < 2 ^ 24 → seq p (order ++ t ∷ []) ≡ Some (catch_up p.outcome (after_ask s t (ask_of p.next x)))
asks-stand p order s t x h a m g e l =
    let c = catch_up p.outcome s in
    let q = ask_of p.next x in
    let n : next_ask p c t ≡ q = next_is p c t x (catch_up-thread p.outcome s t a.orderly a.ready ∙ g) in
    let steps : c.board.steps < 2 ^ 24 = subst (λ i. i < 2 ^ 24) (sym (catch_up-steps p.outcome s)) l in
    let legal = legal_by p c t q n e (catch_up-ready p.outcome s t a.orderly a.ready) (catch_up-clear p.outcome s t q a) steps in
    seq_from-more p (start p) c order t h legal ∙ ap Some (step-catch_up p s t x a m g)
