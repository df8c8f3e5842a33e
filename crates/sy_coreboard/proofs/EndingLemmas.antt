-- The ending of the state that the core stands for.
use Rattle.std.proofs.Common.{◌≡◌, ◌≢◌, ℕ, zero, suc, ◌+◌, ◌≤◌, ℤ, List, [], ◌∷◌, length, map, Bool, true, false, Option, Some, None, ◌⊎◌, refl, sym, ap, ◌∙◌, subst, inl, inr, arith}
use Rattle.std.specs.Prelude.{slice_get, option_map, is_none, not, ◌^◌, ◌&&◌, nat_lt, if◌then◌else◌}
use Rattle.std.proofs.lemmas.Bool.{cases_Bool}
use Rattle.std.proofs.lemmas.Bool.Decides.{nat_tests}
use Rattle.std.proofs.lemmas.Option.{slice_get-map}
use Rattle.sy_work.specs.Programs.{OutcomeOf, Program}
use Rattle.sy_work.specs.declared.asks.Ask.{Ask}
use Rattle.sy_work.specs.declared.asks.Ask.TheVariants.{ThrowQueue}
use Rattle.sy_work.specs.declared.endings.Ending.{Ending}
use Rattle.sy_work.specs.declared.endings.Ending.TheVariants.{Stuck, HistoryFull}
use Rattle.sy_onecopy.specs.declared.Entry.{Entry}
use Rattle.sy_onecopy.specs.declared.Waits.{Waits}
use Rattle.sy_onecopy.specs.declared.Waits.TheVariants.{Ready as NoWait, Due, OnEntry, OnNode, OnQueue, OnThread, Never, Finished}
use Rattle.sy_onecopy.specs.State.{Board, State, Thread, ask_of, next_ask}
use Rattle.sy_onecopy.specs.Laws.{IsSettled}
use Rattle.sy_onecopy.specs.Settle.{settle_entry, settle_one, settle_upto, settle}
use Rattle.sy_onecopy.specs.Step.{given, give_all, once_heard}
use Rattle.sy_onecopy.specs.Sequence.{is_clear, has_open_node_on, goes_on, value_of_main, ready_at, may_step, first_from, first_thread, has_open_node, first_error, ending_after_main, ending_of_threads, ending_of_main, ending_by_main, ending_by_step, ending}
use Rattle.sy_settling.specs.Orderly.{IsOrderly}
use Rattle.sy_settling.proofs.ListLemmas.{and_true, no_left, no_right}
use Rattle.sy_settling.proofs.SettleLemmas.{entry-none, entry-free}
use Rattle.sy_lagging.specs.Lagging.{state_of, catch_up}
use Rattle.sy_coreboard.specs.Over.{IsAside, AllWait, WouldStep}
use Rattle.sy_settling.proofs.DeferredLemmas.{Asking}
use Rattle.sy_lagging.proofs.StepLemmas.{catch_up-ended, catch_up-steps, catch_up-ready, catch_up-thread, catch_up-clear, next_is}
use Rattle.sy_coreboard.proofs.AskLemmas.{catch_up-goes, catch_up-main}

-- ---- a board on which nothing could take effect has settled

fixed_at : (out : OutcomeOf) (b : Board) (k : ℕ) (o : Option Entry) → slice_get b.entries k ≡ o → IsSettled b → settle_entry out b k o ≡ b
fixed_at out b k None g h = entry-none out b k
fixed_at out b k (Some e) g h = entry-free out b k e false (h k e g)

fixed_upto : (out : OutcomeOf) (b : Board) (n : ℕ) → IsSettled b → settle_upto out b n ≡ b
fixed_upto out b zero h = refl
fixed_upto out b (suc n) h = ap (settle_one out n) (fixed_upto out b n h) ∙ fixed_at out b n (slice_get b.entries n) refl h

pub settled-fixed : (out : OutcomeOf) (b : Board) → IsSettled b → settle out b ≡ b
settled-fixed out b h = fixed_upto out b (length b.entries) h

pub give-entries : (d : Board) → (give_all d).entries ≡ d.entries
unfolding give_all
give-entries d = refl

settled-entries : (out : OutcomeOf) (s : State) → IsSettled s.board → (catch_up out s).board.entries ≡ s.board.entries
settled-entries out s h = give-entries (settle out s.board) ∙ ap (λ (z : Board). z.entries) (settled-fixed out s.board h)

give-at : (d : Board) (t : ℕ) (w : Waits) → slice_get d.waits t ≡ Some w → slice_get (map once_heard (give_all d).waits) t ≡ Some (once_heard (given d w))
unfolding give_all
give-at d t w g = slice_get-map once_heard (map (given d) d.waits) t ∙ ap (option_map once_heard) (slice_get-map (given d) d.waits t ∙ ap (option_map (given d)) g)

give-none : (d : Board) (t : ℕ) → slice_get d.waits t ≡ None → slice_get (map once_heard (give_all d).waits) t ≡ None
unfolding give_all
give-none d t g = slice_get-map once_heard (map (given d) d.waits) t ∙ ap (option_map once_heard) (slice_get-map (given d) d.waits t ∙ ap (option_map (given d)) g)

going : (b : Board) → b.ended ≡ None → value_of_main b.waits ≡ None → goes_on b ≡ true
going b h m = ap (λ x. is_none x && is_none (value_of_main b.waits)) h ∙ ap (λ (x : Option ℤ). is_none x) m

past : (n : ℕ) → 2 ^ 24 ≤ n → nat_lt n (2 ^ 24) ≡ false
past n h = grind (arith, nat_tests)

-- ---- a step has ended the run

pub ends-by_step : (p : Program) (s : State) (e : Ending) → s.board.ended ≡ Some e → ending p (catch_up p.outcome s) ≡ Some e
unfolding ending
ends-by_step p s e h = ap (ending_by_step (catch_up p.outcome s).board (first_thread p (catch_up p.outcome s))) (catch_up-ended p.outcome s ∙ h)

-- ---- main has made its last step

pub ends-by_main : (p : Program) (s : State) (v : ℤ) → IsOrderly s.board → s.board.ended ≡ None → value_of_main s.board.waits ≡ Some v → IsSettled s.board → ending p (catch_up p.outcome s) ≡ Some (if has_open_node s.board.entries then Stuck else ending_after_main v (first_error s.board.entries))
unfolding ending
ends-by_main p s v o h m settled =
    let c = catch_up p.outcome s in
    ap (ending_by_step c.board (first_thread p c)) (catch_up-ended p.outcome s ∙ h)
    ∙ ap (ending_by_main c.board (first_thread p c)) (catch_up-main p.outcome s o ∙ m)
    ∙ ap (λ es. Some (ending_of_main es v)) (settled-entries p.outcome s settled)

-- ---- no thread may step

none_first : (test : ℕ → Bool) (k : ℕ) (ws : List Waits) → ((j : ℕ) (w : Waits) → slice_get ws j ≡ Some w → test (k + j) ≡ false) → first_from test k ws ≡ None
none_first test k [] h = refl
none_first test k (w ∷ ws) h =
    ap (λ v. if v then Some k else first_from test (suc k) ws) (subst (λ i. test i ≡ false) (let e : k + 0 ≡ k = omega arith in e) (h 0 w refl))
    ∙ none_first test (suc k) ws (λ j x g. subst (λ i. test i ≡ false) (let e : k + suc j ≡ suc k + j = omega arith in e) (h (suc j) x g))

first_or : (test : ℕ → Bool) (k : ℕ) (x : Waits) (ws : List Waits) (j : ℕ) (w : Waits) → slice_get (x ∷ ws) j ≡ Some w → test (k + j) ≡ true → (test k ≡ true) ⊎ (test k ≡ false) → (u : ℕ) × (first_from test k (x ∷ ws) ≡ Some u)
first_or test k x ws j w g h (inl v) = (k, ap (λ t. if t then Some k else first_from test (suc k) ws) v)
first_or test k x ws zero w g h (inr v) = absurd (let e : k + 0 ≡ k = omega arith in let z : true ≡ false = sym (subst (λ i. test i ≡ true) e h) ∙ v in cc)
first_or test k x [] (suc j) w g h (inr v) = absurd cc
first_or test k x (y ∷ ws) (suc j) w g h (inr v) =
    let e : k + suc j ≡ suc k + j = omega arith in
    let rest = first_or test (suc k) y ws j w g (subst (λ i. test i ≡ true) e h) (cases_Bool (test (suc k))) in
    (rest.0, ap (λ t. if t then Some k else first_from test (suc k) (y ∷ ws)) v ∙ rest.1)

some_first : (test : ℕ → Bool) (k : ℕ) (ws : List Waits) (j : ℕ) (w : Waits) → slice_get ws j ≡ Some w → test (k + j) ≡ true → (u : ℕ) × (first_from test k ws ≡ Some u)
some_first test k [] j w g h = absurd cc
some_first test k (x ∷ ws) j w g h = first_or test k x ws j w g h (cases_Bool (test k))

off_ready : (w : Waits) → w ≢ NoWait → ready_at (Some w) ≡ false
off_ready NoWait h = absurd (h refl)
off_ready (Due a) h = refl
off_ready OnEntry h = refl
off_ready (OnNode n) h = refl
off_ready (OnQueue q n) h = refl
off_ready (OnThread u) h = refl
off_ready Never h = refl
off_ready (Finished v) h = refl

clear_is : (d : Board) (q : Ask) (es : List Entry) (ws : List Waits) → is_clear d q ≡ false → d.entries ≡ es → (c : Board) → c.entries ≡ es → is_clear c q ≡ false
clear_is d (ThrowQueue q) es ws h e c f = ap (λ l. not (has_open_node_on l q)) (f ∙ sym e) ∙ h
clear_is d q es ws h e c f = absurd cc

pub stays_off : (p : Program) (xs : List Thread) (b : Board) (t : ℕ) (w : Waits) → IsOrderly b → IsSettled b → slice_get b.waits t ≡ Some w → (once_heard (given b w) ≢ NoWait) ⊎ IsAside p xs b t w → may_step p (catch_up p.outcome (state_of b xs)) t ≡ false
unfolding may_step
stays_off p xs b t w o settled g (inl off) =
    let c = catch_up p.outcome (state_of b xs) in
    let at : slice_get c.board.waits t ≡ Some (once_heard (given b w)) =
    ap (λ d. slice_get (map once_heard (give_all d).waits) t) (settled-fixed p.outcome b settled) ∙ give-at b t w g in
    no_right (goes_on c.board) (ready_at (slice_get c.board.waits t) && is_clear c.board (next_ask p c t))
    (no_left (ready_at (slice_get c.board.waits t)) (is_clear c.board (next_ask p c t)) (ap ready_at at ∙ off_ready (once_heard (given b w)) off))
stays_off p xs b t w o settled g (inr a) =
    let s = state_of b xs in
    let c = catch_up p.outcome s in
    let ready = g ∙ ap Some a.ready in
    let q = ask_of p.next a.thread in
    let next : next_ask p c t ≡ q = next_is p c t a.thread (catch_up-thread p.outcome s t o ready ∙ a.here) in
    no_right (goes_on c.board) (ready_at (slice_get c.board.waits t) && is_clear c.board (next_ask p c t))
    (no_right (ready_at (slice_get c.board.waits t)) (is_clear c.board (next_ask p c t))
    (ap (is_clear c.board) next ∙ clear_is b q b.entries b.waits a.unclear refl c.board (settled-entries p.outcome s settled)))

-- there is no thread that isn't there
pub stuck_none : (p : Program) (xs : List Thread) (b : Board) (t : ℕ) (v : Waits) → IsSettled b → slice_get b.waits t ≡ None → slice_get (catch_up p.outcome (state_of b xs)).board.waits t ≡ Some v → {A : Type 0} → A
stuck_none p xs b t v settled e g =
    absurd (let z : None ≡ Some v = sym (ap (λ d. slice_get (map once_heard (give_all d).waits) t) (settled-fixed p.outcome b settled) ∙ give-none b t e) ∙ g in cc)

stuck_at : (p : Program) (xs : List Thread) (b : Board) (t : ℕ) (v : Waits) → IsOrderly b → IsSettled b → AllWait p xs b → slice_get (catch_up p.outcome (state_of b xs)).board.waits t ≡ Some v → (o : Option Waits) → slice_get b.waits t ≡ o → may_step p (catch_up p.outcome (state_of b xs)) t ≡ false
stuck_at p xs b t v o settled wait g None e = stuck_none p xs b t v settled e g
stuck_at p xs b t v o settled wait g (Some w) e = stays_off p xs b t w o settled e (wait t w e)

pub ends-stuck : (p : Program) (xs : List Thread) (b : Board) → IsOrderly b → b.ended ≡ None → value_of_main b.waits ≡ None → IsSettled b → AllWait p xs b → ending p (catch_up p.outcome (state_of b xs)) ≡ Some Stuck
unfolding ending first_thread
ends-stuck p xs b o h m settled wait =
    let s = state_of b xs in
    let c = catch_up p.outcome s in
    let none : first_from (may_step p c) 0 c.board.waits ≡ None =
    none_first (may_step p c) 0 c.board.waits (λ t v g. (let e : t ≡ 0 + t = omega arith in subst (λ i. may_step p (catch_up p.outcome (state_of b xs)) i ≡ false) e (stuck_at p xs b t v o settled wait g (slice_get b.waits t) refl))) in
    ap (ending_by_step c.board (first_thread p c)) (catch_up-ended p.outcome s ∙ h)
    ∙ ap (ending_by_main c.board (first_thread p c)) (catch_up-main p.outcome s o ∙ m)
    ∙ ap (ending_of_threads c.board.steps) none

-- ---- the history is full

pub ends-full : (p : Program) (xs : List Thread) (b : Board) → IsOrderly b → b.ended ≡ None → value_of_main b.waits ≡ None → WouldStep p xs b → ending p (catch_up p.outcome (state_of b xs)) ≡ Some HistoryFull
unfolding ending first_thread may_step
ends-full p xs b o h m w =
    let s = state_of b xs in
    let c = catch_up p.outcome s in
    let q = ask_of p.next w.thread in
    let a : Asking b w.at q = record { orderly = o; ready = w.ready; clear = w.clear } in
    let ready = catch_up-ready p.outcome s w.at o w.ready in
    let next : next_ask p c w.at ≡ q = next_is p c w.at w.thread (catch_up-thread p.outcome s w.at o w.ready ∙ w.here) in
    let on : goes_on c.board ≡ true = catch_up-goes p.outcome s o ∙ going b h m in
    let may : may_step p c w.at ≡ true =
    and_true (goes_on c.board) (ready_at (slice_get c.board.waits w.at) && is_clear c.board (next_ask p c w.at)) on
    (and_true (ready_at (slice_get c.board.waits w.at)) (is_clear c.board (next_ask p c w.at)) (ap ready_at ready) (ap (is_clear c.board) next ∙ catch_up-clear p.outcome s w.at q a)) in
    let first = some_first (may_step p c) 0 c.board.waits w.at NoWait ready (let e : w.at ≡ 0 + w.at = omega arith in subst (λ i. may_step p c i ≡ true) e may) in
    let late : nat_lt c.board.steps (2 ^ 24) ≡ false = past c.board.steps (subst (λ i. 2 ^ 24 ≤ i) (sym (catch_up-steps p.outcome s)) w.full) in
    ap (ending_by_step c.board (first_thread p c)) (catch_up-ended p.outcome s ∙ h)
    ∙ ap (ending_by_main c.board (first_thread p c)) (catch_up-main p.outcome s o ∙ m)
    ∙ ap (ending_of_threads c.board.steps) first.1
    ∙ ap (λ v. if v then None else Some HistoryFull) late
