-- A kernel's groups in any order.
use Rattle.std.proofs.Common.{refl}
use Rattle.std.specs.List.{list_any}
use Rattle.std.specs.Prelude.{Bool, Err, List, None, Ok, Option, Some, [], false, reverse, suc, true, zero, ℕ, ℤ, ◌++◌, ◌+◌, ◌||◌, ◌∷◌, ◌≡◌}
use Rattle.sy_access.specs.Logs.{is_logged, logged, same_cell}
use Rattle.sy_access.specs.declared.cells.Cell.{Cell}
use Rattle.sy_range.specs.declared.nd_ranges.Position.{Position}
use Rattle.sy_work.specs.Programs.{Input}
use Rattle.sy_work.specs.declared.asks.Answer.{Answer}
use Rattle.sy_work.specs.declared.commands.Kernel.{Kernel}
use Rattle.sy_work.specs.declared.commands.Outcome.TheVariants as outcomes
use Rattle.sy_work.specs.declared.endings.Fault.{Fault}
use Rattle.sy_meaning.specs.declared.runs.Step.{Step}
use Rattle.sy_meaning.specs.declared.runs.Store.{Store}
use Rattle.sy_meaning.specs.Statements.{given}
use Rattle.sy_meaning.specs.Next.{item}
use Rattle.sy_meaning.specs.Items.{Item, clashes, failed, fault_or, first_clash, phase, written}
use Rattle.sy_meaning.specs.Kernels.{Done, Grouped, Items, Touched, after_groups, all_touches, both_done, came, done_after, footprints, go_on_after, group_clash, group_done, groups_done, is_buffer_cell, log_of, logged_outcome, nothing_done, or_fault, phases, run_kernel, with_answers}
use Rattle.sy_meaning.specs.Orders.{KernelFails, SameLog, exchanged, meets, reordered}
use Rattle.sy_meaning.proofs.TouchLemmas.{Covered, group_covered, logged_more, ok_is, touched_steps}
use Rattle.sy_meaning.proofs.ClashLemmas.{item_quiet, meets_from, meets_parts, meets_sym, quiet_steps, steps_quiet}
use Rattle.sy_meaning.proofs.ItemOrderLemmas.{logged_behind, logged_swap, one_writes, writes_cell}
use Rattle.sy_meaning.proofs.LogLemmas.{buffer_logged, log_is, other_logged}
use mathlib.Core.List.{reverse-cons}
use Rattle.std.proofs.Common.{sym, ap, ◌∙◌, subst, inl, inr, arith}
use Rattle.std.proofs.lemmas.Bool.{cases_Bool, or_parts, or_from, both_ways}
use Rattle.std.proofs.lemmas.Grind.{flat_map-append}
use Rattle.std.proofs.lemmas.List.{reverse-append}
use Rattle.std.proofs.lemmas.List.Folds.{list_any-append}

-- ---- a group without a clash

meets_behind : (a b e : List Step) → meets (a ++ b) e ≡ (meets a e || meets b e)
meets_behind a b e = list_any-append (λ s. list_any (clashes s) e) a b

pub groups_quiet : (earlier : List Step) (ts : List Touched) → group_clash earlier ts ≡ None → meets (touched_steps ts) earlier ≡ false
groups_quiet earlier [] h = refl
groups_quiet earlier (t ∷ ts) h =
    let p = item_quiet t.0 (first_clash earlier t.1) (group_clash earlier ts) h in
    meets_behind t.1 (touched_steps ts) earlier ∙ or_from (meets t.1 earlier) (meets (touched_steps ts) earlier) (steps_quiet earlier t.1 p.0) (groups_quiet earlier ts p.1)

pub quiet_groups : (earlier : List Step) (ts : List Touched) → meets (touched_steps ts) earlier ≡ false → group_clash earlier ts ≡ None
quiet_groups earlier [] h = refl
quiet_groups earlier (t ∷ ts) h =
    let p = or_parts (meets t.1 earlier) (meets (touched_steps ts) earlier) (sym (meets_behind t.1 (touched_steps ts) earlier) ∙ h) in
    ap (λ x. fault_or t.0 x (group_clash earlier ts)) (quiet_steps earlier t.1 p.0) ∙ quiet_groups earlier ts p.1

pub touches_of_both : (a b : Done) → all_touches (both_done a b) ≡ all_touches a ++ all_touches b
touches_of_both a b = flat_map-append (λ (t : Touched). t.1) a.touches b.touches

-- ---- groups one after another, each of which comes to what it comes to alone

abbrev pub Alone : Type 0
Alone = List Position → Grouped

-- so the groups come to the last of these, and none clashes with those before it
abbrev pub Calm : Alone → Done → List (List Position) → Done → Type 0
Calm run before [] x = before ≡ x
Calm run before (ps ∷ gs) x = (d : Done) × (run ps ≡ Ok d) × (meets (all_touches d) (all_touches before) ≡ false) × Calm run (both_done before d) gs x

clash_none : (y : Option Fault) (b : Done) (go : Done → Grouped) (x : Done) → go_on_after (or_fault y (Ok b)) go ≡ Ok x → (y ≡ None) × (go b ≡ Ok x)
clash_none None b go x h = (refl, h)
clash_none (Some f) b go x h = absurd cc

after_ok : (before : Done) (r : Grouped) (go : Done → Grouped) (x : Done) → go_on_after (after_groups before r) go ≡ Ok x → (d : Done) × (r ≡ Ok d) × (meets (all_touches d) (all_touches before) ≡ false) × (go (both_done before d) ≡ Ok x)
after_ok before (Err f) go x h = absurd cc
after_ok before (Ok d) go x h =
    let p = clash_none (group_clash (all_touches before) d.touches) (both_done before d) go x h in
    (d, refl, groups_quiet (all_touches before) d.touches p.0, p.1)

pub calm_from : (item : Item) (turns : ℕ) (inputs : List Input) (before : Done) (gs : List (List Position)) (x : Done) → groups_done item turns inputs before gs ≡ Ok x → Calm (group_done item turns inputs) before gs x
calm_from item turns inputs before [] x h = ok_is before x h
calm_from item turns inputs before (ps ∷ gs) x h =
    let a = after_ok before (group_done item turns inputs ps) (λ d. groups_done item turns inputs d gs) x h in
    (a.0, a.1, a.2, calm_from item turns inputs (both_done before a.0) gs x a.3)

pub from_calm : (item : Item) (turns : ℕ) (inputs : List Input) (before : Done) (gs : List (List Position)) (x : Done) → Calm (group_done item turns inputs) before gs x → groups_done item turns inputs before gs ≡ Ok x
from_calm item turns inputs before [] x h = ap (λ (z : Done). let r : Grouped = Ok z in r) h
from_calm item turns inputs before (ps ∷ gs) x h =
    let d = h.0 in
    let go : Done → Grouped = λ z. groups_done item turns inputs z gs in
    ap (λ r. go_on_after (after_groups before r) go) h.1 ∙ (ap (λ y. go_on_after (or_fault y (Ok (both_done before d))) go) (quiet_groups (all_touches before) d.touches h.2) ∙ from_calm item turns inputs (both_done before d) gs x h.3)

-- ---- results that no one can tell apart

pub record Alike (a b : Done) : Type 0 where
  pub touches : (ss : List Step) → meets ss (all_touches a) ≡ false → meets ss (all_touches b) ≡ false
  pub cells : (c : Cell) → is_buffer_cell c ≡ true → logged (reverse a.writes) c ≡ logged (reverse b.writes) c

alike_itself : (a : Done) → Alike a a
alike_itself a = record { touches = λ ss h. h; cells = λ c h. refl }

alike_then : (a b c : Done) → Alike a b → Alike b c → Alike a c
alike_then a b c p q = record { touches = λ ss h. q.touches ss (p.touches ss h); cells = λ x h. p.cells x h ∙ q.cells x h }

both_meet : (ss : List Step) (a d : Done) → meets ss (all_touches (both_done a d)) ≡ false → (meets ss (all_touches a) ≡ false) × (meets ss (all_touches d) ≡ false)
both_meet ss a d h = meets_parts ss (all_touches a) (all_touches d) (sym (ap (λ l. meets ss l) (touches_of_both a d)) ∙ h)

both_apart : (ss : List Step) (a d : Done) → meets ss (all_touches a) ≡ false → meets ss (all_touches d) ≡ false → meets ss (all_touches (both_done a d)) ≡ false
both_apart ss a d h k = ap (λ l. meets ss l) (touches_of_both a d) ∙ meets_from ss (all_touches a) (all_touches d) h k

both_written : (a d : Done) (c : Cell) → logged (reverse (a.writes ++ d.writes)) c ≡ logged (reverse d.writes ++ reverse a.writes) c
both_written a d c = ap (λ l. logged l c) (reverse-append a.writes d.writes)

alike_more : (a b d : Done) → Alike a b → Alike (both_done a d) (both_done b d)
alike_more a b d p =
    record {
      touches = λ ss h. let q = both_meet ss a d h in both_apart ss b d (p.touches ss q.0) q.1;
      cells = λ c h. both_written a d c ∙ (logged_behind (reverse d.writes) (reverse a.writes) (reverse b.writes) c (p.cells c h) ∙ sym (both_written b d c));
    }

pub calm_alike : (run : Alone) (a b : Done) (gs : List (List Position)) (x : Done) → Alike a b → Calm run a gs x → (y : Done) × Calm run b gs y × Alike x y
calm_alike run a b [] x p h = (b, refl, (let P = λ (z : Done). Alike z b in subst P h p))
calm_alike run a b (ps ∷ gs) x p h =
    let d = h.0 in
    let more = calm_alike run (both_done a d) (both_done b d) gs x (alike_more a b d p) h.3 in
    (more.0, (d, h.1, p.touches (all_touches d) h.2, more.1), more.2)

-- ---- exchanges

or_either : (x y z : Bool) → (x || y) ≡ (y || (x || false))
or_either true true z = refl
or_either true false z = refl
or_either false true z = refl
or_either false false z = refl

pub logged_reverse : (ws : List (Cell × ℤ)) (c : Cell) → is_logged (reverse ws) c ≡ is_logged ws c
logged_reverse [] c = refl
logged_reverse (w ∷ ws) c =
    ap (λ l. is_logged l c) (reverse-cons w ws) ∙ (logged_more (reverse ws) (w ∷ []) c ∙ (ap (λ x. x || (same_cell w.0 c || false)) (logged_reverse ws c) ∙ sym (or_either (same_cell w.0 c) (is_logged ws c) false)))

no_log : (d : Done) (c : Cell) → Covered d → is_buffer_cell c ≡ true → writes_cell (all_touches d) c ≡ false → is_logged d.writes c ≡ false
no_log d c covered h none =
    elim (cases_Bool (is_logged d.writes c)) [
      | inl e ↦ absurd (both_ways (writes_cell (all_touches d) c) none (covered c h e))
      | inr e ↦ e
    ]

writes_apart : (e d : Done) (c : Cell) → Covered e → Covered d → is_buffer_cell c ≡ true → meets (all_touches e) (all_touches d) ≡ false → is_logged (reverse e.writes) c ≡ true → is_logged (reverse d.writes) c ≡ false
writes_apart e d c covers covered h apart logged =
    logged_reverse d.writes c ∙ no_log d c covered h (one_writes (all_touches e) (all_touches d) c apart (covers c h (sym (logged_reverse e.writes c) ∙ logged)))

three_written : (a d e : Done) (c : Cell) → logged (reverse ((a.writes ++ d.writes) ++ e.writes)) c ≡ logged (reverse e.writes ++ (reverse d.writes ++ reverse a.writes)) c
three_written a d e c = ap (λ l. logged l c) (reverse-append (a.writes ++ d.writes) e.writes ∙ ap (λ l. reverse e.writes ++ l) (reverse-append a.writes d.writes))

swapped : (a d e : Done) → Covered d → Covered e → meets (all_touches e) (all_touches d) ≡ false → Alike (both_done (both_done a d) e) (both_done (both_done a e) d)
swapped a d e covered covers apart =
    record {
      touches = λ ss h. let m = both_meet ss (both_done a d) e h in let n = both_meet ss a d m.0 in both_apart ss (both_done a e) d (both_apart ss a e n.0 m.1) n.1;
      cells = λ c h. three_written a d e c ∙ (logged_swap (reverse e.writes) (reverse d.writes) (reverse a.writes) c (writes_apart e d c covers covered h apart) ∙ sym (three_written a e d c));
    }

module _ (run : Alone) (covers : (ps : List Position) (d : Done) → run ps ≡ Ok d → Covered d) where
  calm_swap : (a : Done) (ps qs : List Position) (gs : List (List Position)) (x : Done) → Calm run a (ps ∷ qs ∷ gs) x → (y : Done) × Calm run a (qs ∷ ps ∷ gs) y × Alike x y
  calm_swap a ps qs gs x h =
      let d = h.0 in
      let k = h.3 in
      let e = k.0 in
      let q = both_meet (all_touches e) a d k.2 in
      let more = calm_alike run (both_done (both_done a d) e) (both_done (both_done a e) d) gs x (swapped a d e (covers ps d h.1) (covers qs e k.1) q.1) k.3 in
      (more.0, (e, k.1, q.0, (d, h.1, both_apart (all_touches d) a e h.2 (meets_sym (all_touches e) (all_touches d) q.1), more.1)), more.2)

  calm_exchanged : (k : ℕ) (a : Done) (gs : List (List Position)) (x : Done) → Calm run a gs x → (y : Done) × Calm run a (exchanged k gs) y × Alike x y
  calm_exchanged k a [] x h = (x, h, alike_itself x)
  calm_exchanged k a (ps ∷ []) x h = (x, h, alike_itself x)
  calm_exchanged zero a (ps ∷ qs ∷ gs) x h = calm_swap a ps qs gs x h
  calm_exchanged (suc k) a (ps ∷ qs ∷ gs) x h =
      let d = h.0 in
      let more = calm_exchanged k (both_done a d) (qs ∷ gs) x h.3 in
      (more.0, (d, h.1, h.2, more.1), more.2)

  pub calm_reordered : (order : List ℕ) (a : Done) (gs : List (List Position)) (x : Done) → Calm run a gs x → (y : Done) × Calm run a (reordered order gs) y × Alike x y
  calm_reordered [] a gs x h = (x, h, alike_itself x)
  calm_reordered (k ∷ order) a gs x h =
      let one = calm_exchanged k a gs x h in
      let more = calm_reordered order a (exchanged k gs) one.0 one.1 in
      (more.0, more.1, alike_then x one.0 more.0 one.2 more.2)

-- ---- the laws

pub log_alike : (x y : Done) (c : Cell) → Alike x y → logged (log_of x.writes) c ≡ logged (log_of y.writes) c
log_alike x y c p =
    elim (cases_Bool (is_buffer_cell c)) [
      | inl e ↦ log_is x.writes c ∙ (buffer_logged x.writes c e ∙ (p.cells c e ∙ sym (log_is y.writes c ∙ buffer_logged y.writes c e)))
      | inr e ↦ log_is x.writes c ∙ (other_logged x.writes c e ∙ sym (log_is y.writes c ∙ other_logged y.writes c e))
    ]

pub groups_reordered : (order : List ℕ) (item : Item) (turns : ℕ) (inputs : List Input) (gs : List (List Position)) (d : Done) → groups_done item turns inputs nothing_done gs ≡ Ok d → (e : Done) × (groups_done item turns inputs nothing_done (reordered order gs) ≡ Ok e) × ((c : Cell) → logged (log_of e.writes) c ≡ logged (log_of d.writes) c)
groups_reordered order item turns inputs gs d h =
    let a = calm_reordered (group_done item turns inputs) (group_covered item turns inputs) order nothing_done gs d (calm_from item turns inputs nothing_done gs d h) in
    (a.0, from_calm item turns inputs nothing_done (reordered order gs) a.0 a.1, λ c. sym (log_alike d a.0 c a.2))

wrote_from : (r : Grouped) (log : List (Cell × ℤ)) → logged_outcome r ≡ outcomes.Wrote log → (d : Done) × (r ≡ Ok d) × (log_of d.writes ≡ log)
wrote_from (Ok d) log h = (d, refl, cc)
wrote_from (Err f) log h = absurd cc

pub kernel_reordered : (order : List ℕ) (items : Items) (k : Kernel) (inputs : List Input) (gs : List (List Position)) (log : List (Cell × ℤ)) → run_kernel items k gs inputs ≡ outcomes.Wrote log → (other : List (Cell × ℤ)) × (run_kernel items k (reordered order gs) inputs ≡ outcomes.Wrote other) × SameLog other log
kernel_reordered order items k inputs gs log h =
    let w = wrote_from (groups_done (items k) k.turns inputs nothing_done gs) log h in
    let a = groups_reordered order (items k) k.turns inputs gs w.0 w.1 in
    (log_of a.0.writes, ap logged_outcome a.1, λ c. a.2 c ∙ ap (λ l. logged l c) w.2)

-- ---- clashes fail the kernel

behind_group : (run : Alone) (ss : List Step) (a : Done) (between : List (List Position)) (qs : List Position) (after : List (List Position)) (x e : Done) → ((ts : List Step) → meets ts (all_touches a) ≡ false → meets ts ss ≡ false) → run qs ≡ Ok e → Calm run a (between ++ qs ∷ after) x → meets (all_touches e) ss ≡ false
behind_group run ss a [] qs after x e less is h =
    let P = λ (z : Done). meets (all_touches z) ss ≡ false in subst P (ok_is h.0 e (sym h.1 ∙ is)) (less (all_touches h.0) h.2)
behind_group run ss a (gs ∷ between) qs after x e less is h = behind_group run ss (both_done a h.0) between qs after x e (λ ts m. less ts (both_meet ts a h.0 m).0) is h.3

pub two_groups_apart : (run : Alone) (a : Done) (before : List (List Position)) (ps : List Position) (between : List (List Position)) (qs : List Position) (after : List (List Position)) (x d e : Done) → run ps ≡ Ok d → run qs ≡ Ok e → Calm run a (before ++ ps ∷ (between ++ qs ∷ after)) x → meets (all_touches e) (all_touches d) ≡ false
two_groups_apart run a [] ps between qs after x d e is_d is_e h =
    let same : h.0 ≡ d = ok_is h.0 d (sym h.1 ∙ is_d) in
    let P = λ (z : Done). meets (all_touches e) (all_touches z) ≡ false in
    subst P same (behind_group run (all_touches h.0) (both_done a h.0) between qs after x e (λ ts m. (both_meet ts a h.0 m).1) is_e h.3)
two_groups_apart run a (gs ∷ before) ps between qs after x d e is_d is_e h = two_groups_apart run (both_done a h.0) before ps between qs after x d e is_d is_e h.3

fails_or_done : (r : Grouped) → ((d : Done) → r ≡ Ok d → ⊥) → KernelFails (logged_outcome r)
fails_or_done (Ok d) no_done = absurd (no_done d refl)
fails_or_done (Err f) no_done = (f, refl)

pub kernel_clash_fails : (items : Items) (k : Kernel) (inputs : List Input) (before : List (List Position)) (ps : List Position) (between : List (List Position)) (qs : List Position) (after : List (List Position)) (d e : Done) → group_done (items k) k.turns inputs ps ≡ Ok d → group_done (items k) k.turns inputs qs ≡ Ok e → meets (all_touches e) (all_touches d) ≡ true → KernelFails (run_kernel items k (before ++ ps ∷ (between ++ qs ∷ after)) inputs)
kernel_clash_fails items k inputs before ps between qs after d e is_d is_e clash =
    let gs = before ++ ps ∷ (between ++ qs ∷ after) in
    fails_or_done (groups_done (items k) k.turns inputs nothing_done gs) (λ x h. both_ways (meets (all_touches e) (all_touches d)) (two_groups_apart (group_done (items k) k.turns inputs) nothing_done before ps between qs after x d e is_d is_e (calm_from (items k) k.turns inputs nothing_done gs x h)) clash)

-- ---- a failure fails all above it

group_ran : (run : Alone) (a : Done) (before : List (List Position)) (ps : List Position) (after : List (List Position)) (x : Done) → Calm run a (before ++ ps ∷ after) x → (d : Done) × (run ps ≡ Ok d)
group_ran run a [] ps after x h = (h.0, h.1)
group_ran run a (gs ∷ before) ps after x h = group_ran run (both_done a h.0) before ps after x h.3

no_both : (r : Grouped) (d : Done) (f : Fault) → r ≡ Ok d → r ≡ Err f → ⊥
no_both r d f p q = cc

pub failed_group : (items : Items) (k : Kernel) (inputs : List Input) (before : List (List Position)) (ps : List Position) (after : List (List Position)) (f : Fault) → group_done (items k) k.turns inputs ps ≡ Err f → KernelFails (run_kernel items k (before ++ ps ∷ after) inputs)
failed_group items k inputs before ps after f broke =
    let gs = before ++ ps ∷ after in
    fails_or_done (groups_done (items k) k.turns inputs nothing_done gs) (λ x h. let r = group_ran (group_done (items k) k.turns inputs) nothing_done before ps after x (calm_from (items k) k.turns inputs nothing_done gs x h) in no_both (group_done (items k) k.turns inputs ps) r.0 f r.1 broke)

pub failed_phase : (item : Item) (ps : List Position) (n : ℕ) (stores : List Store) (now : Store) (given : List (List Answer)) (done : Done) (f : Fault) → phase (footprints item ps (stores ++ now ∷ []) given) ≡ failed f → phases item ps (suc n) stores now given done ≡ Err f
failed_phase item ps n stores now given done f h =
    let fs = footprints item ps (stores ++ now ∷ []) given in
    ap (λ c. came c (done_after done fs) (λ bs. phases item ps n (stores ++ now ∷ []) (written now fs) (with_answers given bs) (done_after done fs))) h

pub phase_fails_group : (item : Item) (ps : List Position) (n : ℕ) (stores : List Store) (now : Store) (given : List (List Answer)) (done : Done) (f : Fault) → phase (footprints item ps (stores ++ now ∷ []) given) ≡ failed f → phases item ps (n + 1) stores now given done ≡ Err f
phase_fails_group item ps n stores now given done f h =
    let e : suc n ≡ n + 1 = omega arith in
    let P = λ (m : ℕ). phases item ps m stores now given done ≡ Err f in
    subst P e (failed_phase item ps n stores now given done f h)
