-- Which tasks may begin, and which thread steps when none may.
use Rattle.std.proofs.Common.{◌≡◌, ◌≢◌, ℕ, zero, suc, ◌+◌, ◌<◌, List, [], ◌∷◌, Bool, true, false, Option, Some, None, ◌⊎◌, refl, sym, ap, ◌∙◌, subst, inl, inr, arith}
use Rattle.std.specs.Prelude.{slice_get, IsSome, is_none, ◌&&◌, ◌==◌, if◌then◌else◌}
use Rattle.std.proofs.lemmas.Bool.{cases_Bool}
use Rattle.sy_access.specs.declared.access.Need.{Need}
use Rattle.sy_work.specs.Programs.{Program}
use Rattle.sy_onecopy.specs.declared.Entry.{Entry}
use Rattle.sy_onecopy.specs.declared.Waits.{Waits}
use Rattle.sy_onecopy.specs.declared.Waits.TheVariants.{Ready as NoWait}
use Rattle.sy_onecopy.specs.State.{Board, Thread, ask_of, next_ask}
use Rattle.sy_onecopy.specs.Before.{is_free}
use Rattle.sy_onecopy.specs.Laws.{IsSettled}
use Rattle.sy_onecopy.specs.Step.{given, once_heard}
use Rattle.sy_onecopy.specs.Sequence.{is_clear, goes_on, ready_at, may_step, first_from, first_thread}
use Rattle.sy_settling.specs.Orderly.{IsOrderly}
use Rattle.sy_settling.proofs.ListLemmas.{some_is, and_true, and_left, and_right}
use Rattle.sy_lagging.specs.Lagging.{state_of, catch_up}
use Rattle.sy_coreboard.specs.Core.{Core, is_used, HasCopies}
use Rattle.sy_coreboard.specs.Choice.{missing_root_from, missing_root, IsQuiet, NothingMayBegin}
use Rattle.sy_coreboard.specs.Over.{IsAside}
use Rattle.sy_settling.proofs.DeferredLemmas.{Asking}
use Rattle.sy_lagging.proofs.StepLemmas.{catch_up-ready, catch_up-thread, catch_up-clear, next_is}
use Rattle.sy_coreboard.proofs.NeedLemmas.{among, names_it, named_here}
use Rattle.sy_coreboard.proofs.AskLemmas.{catch_up-goes}
use Rattle.sy_coreboard.proofs.EndingLemmas.{stays_off, stuck_none}

-- ---- what an entry misses

none_here : (c : Core) (e : Entry) (n : Need) (ns : List Need) → missing_root_from c e (n ∷ ns) ≡ None → ((is_used c.board e n.buffer && is_none (c.copies e.place n.buffer)) ≡ false) × (missing_root_from c e ns ≡ None)
none_here c e n ns h = elim (cases_Bool (is_used c.board e n.buffer && is_none (c.copies e.place n.buffer))) [
  | inl v ↦ absurd (let z : Some n.buffer ≡ None = sym (ap (λ t. if t then Some n.buffer else missing_root_from c e ns) v) ∙ h in cc)
  | inr v ↦ (v, sym (ap (λ t. if t then Some n.buffer else missing_root_from c e ns) v) ∙ h)
]

none_at : (c : Core) (e : Entry) (ns : List Need) (k : ℕ) (n : Need) → missing_root_from c e ns ≡ None → slice_get ns k ≡ Some n → (is_used c.board e n.buffer && is_none (c.copies e.place n.buffer)) ≡ false
none_at c e [] k n h g = absurd cc
none_at c e (m ∷ ms) zero n h g = subst (λ (x : Need). (is_used c.board e x.buffer && is_none (c.copies e.place x.buffer)) ≡ false) (some_is g) (none_here c e m ms h).0
none_at c e (m ∷ ms) (suc k) n h g = none_at c e ms k n (none_here c e m ms h).1 g

some_if : {T : Type 0} (o : Option T) (u : Bool) → (u && is_none o) ≡ false → u ≡ true → IsSome o
some_if (Some x) u h v = refl
some_if None u h v = absurd (let z : true ≡ false = sym (ap (λ t. t && true) v) ∙ h in cc)

-- an entry that misses nothing has its copies
pub misses_nothing : (c : Core) (e : Entry) → missing_root c e ≡ None → HasCopies c e
unfolding missing_root
misses_nothing c e h r u =
    let a = among (λ (n : Need). n.buffer == r) e.needs (names_it r _ e u) in
    let is = named_here a.need r a.passes in
    some_if (c.copies e.place r) (is_used c.board e r) (subst (λ i. (is_used c.board e i && is_none (c.copies e.place i)) ≡ false) is (none_at c e e.needs a.place a.need h a.at)) u

none_is : {T : Type 0} (o : Option T) → is_none o ≡ true → o ≡ None
none_is None h = refl
none_is (Some x) h = absurd cc

missed_from : (c : Core) (e : Entry) (ns : List Need) (r : ℕ) → missing_root_from c e ns ≡ Some r → (is_used c.board e r ≡ true) × (c.copies e.place r ≡ None)
missed_from c e [] r h = absurd cc
missed_from c e (n ∷ ns) r h = elim (cases_Bool (is_used c.board e n.buffer && is_none (c.copies e.place n.buffer))) [
  | inl v ↦
      let is : n.buffer ≡ r = some_is (sym (ap (λ t. if t then Some n.buffer else missing_root_from c e ns) v) ∙ h) in
      let u = and_left (is_used c.board e n.buffer) (is_none (c.copies e.place n.buffer)) v in
      let o = and_right (is_used c.board e n.buffer) (is_none (c.copies e.place n.buffer)) v in
      (subst (λ i. is_used c.board e i ≡ true) is u, none_is (c.copies e.place r) (subst (λ i. is_none (c.copies e.place i) ≡ true) is o))
  | inr v ↦ missed_from c e ns r (sym (ap (λ t. if t then Some n.buffer else missing_root_from c e ns) v) ∙ h)
]

-- what it misses it needs, and has not
pub is_missed : (c : Core) (e : Entry) (r : ℕ) → missing_root c e ≡ Some r → (is_used c.board e r ≡ true) × (c.copies e.place r ≡ None)
unfolding missing_root
is_missed c e r h = missed_from c e e.needs r h

-- ---- a core in which nothing may begin and nothing is out has settled

pub quiet-settled : (c : Core) → IsQuiet c → NothingMayBegin c → IsSettled c.board
quiet-settled c q n k e g = elim (cases_Bool (is_free c.board.entries k e)) [
  | inl v ↦
      let m = n k e (g, v) (q.out k) in
      absurd (let z : true ≡ false = sym (ap is_none (q.moving e.place m.0)) ∙ m.2 in cc)
  | inr v ↦ v
]

-- ---- the least thread that may step

first_at : (test : ℕ → Bool) (k : ℕ) (ws : List Waits) (t : ℕ) (w : Waits) → slice_get ws t ≡ Some w → test (k + t) ≡ true → ((j : ℕ) (v : Waits) → j < t → slice_get ws j ≡ Some v → test (k + j) ≡ false) → first_from test k ws ≡ Some (k + t)
first_at test k [] t w g h l = absurd cc
first_at test k (x ∷ ws) zero w g h l =
    let e : k + 0 ≡ k = omega arith in
    ap (λ v. if v then Some k else first_from test (suc k) ws) (subst (λ i. test i ≡ true) e h) ∙ ap Some (sym e)
first_at test k (x ∷ ws) (suc t) w g h l =
    let e : k + 0 ≡ k = omega arith in
    let f : k + suc t ≡ suc k + t = omega arith in
    ap (λ v. if v then Some k else first_from test (suc k) ws) (subst (λ i. test i ≡ false) e (l 0 x (omega arith) refl))
    ∙ first_at test (suc k) ws t w g (subst (λ i. test i ≡ true) f h) (λ j v lt i. (let d : k + suc j ≡ suc k + j = omega arith in subst (λ n. test n ≡ false) d (l (suc j) v (omega (arith, lt)) i)))
    ∙ ap Some (sym f)

lower_off : (p : Program) (xs : List Thread) (b : Board) (t : ℕ) → IsOrderly b → IsSettled b → ((j : ℕ) (w : Waits) → j < t → slice_get b.waits j ≡ Some w → (once_heard (given b w) ≢ NoWait) ⊎ IsAside p xs b j w) → (j : ℕ) (v : Waits) → j < t → slice_get (catch_up p.outcome (state_of b xs)).board.waits j ≡ Some v → (o : Option Waits) → slice_get b.waits j ≡ o → may_step p (catch_up p.outcome (state_of b xs)) j ≡ false
lower_off p xs b t o settled l j v lt g None e = stuck_none p xs b j v settled e g
lower_off p xs b t o settled l j v lt g (Some w) e = stays_off p xs b j w o settled e (l j w lt e)

-- where nothing could take effect and the threads below t wait, t makes the next serial step
pub serial-first : (p : Program) (xs : List Thread) (b : Board) (t : ℕ) (x : Thread) → IsOrderly b → IsSettled b → slice_get b.waits t ≡ Some NoWait → slice_get xs t ≡ Some x → is_clear b (ask_of p.next x) ≡ true → goes_on b ≡ true → ((j : ℕ) (w : Waits) → j < t → slice_get b.waits j ≡ Some w → (once_heard (given b w) ≢ NoWait) ⊎ IsAside p xs b j w) → first_thread p (catch_up p.outcome (state_of b xs)) ≡ Some t
unfolding first_thread may_step
serial-first p xs b t x o settled ready here clear on l =
    let s = state_of b xs in
    let c = catch_up p.outcome s in
    let q = ask_of p.next x in
    let a : Asking b t q = record { orderly = o; ready = ready; clear = clear } in
    let at = catch_up-ready p.outcome s t o ready in
    let next : next_ask p c t ≡ q = next_is p c t x (catch_up-thread p.outcome s t o ready ∙ here) in
    let may : may_step p c t ≡ true =
    and_true (goes_on c.board) (ready_at (slice_get c.board.waits t) && is_clear c.board (next_ask p c t)) (catch_up-goes p.outcome s o ∙ on)
    (and_true (ready_at (slice_get c.board.waits t)) (is_clear c.board (next_ask p c t)) (ap ready_at at) (ap (is_clear c.board) next ∙ catch_up-clear p.outcome s t q a)) in
    let zero_plus : t ≡ 0 + t = omega arith in
    first_at (may_step p c) 0 c.board.waits t NoWait at (subst (λ i. may_step p c i ≡ true) zero_plus may)
    (λ j v lt g. (let e : j ≡ 0 + j = omega arith in subst (λ i. may_step p c i ≡ false) e (lower_off p xs b t o settled l j v lt g (slice_get b.waits j) refl)))
    ∙ ap Some (sym zero_plus)
