-- A kernel's touches and writes are those of the steps, and so are its clashes and its log.
use Rattle.std.proofs.Common.{refl, sym, ap, ◌∙◌, subst, inl, inr, arith, ◌⊎◌, ◌<◌}
use Rattle.std.specs.List.{list_any}
use Rattle.std.specs.Prelude.{Bool, List, [], None, Option, Some, false, true, flat_map, if◌then◌else◌, is_some, length, ℕ, ℤ, ◌&&◌, ◌||◌, ◌++◌, ◌∷◌, ◌≡◌}
use Rattle.std.proofs.lemmas.Bool.{and_right, and_parts, or_parts, or_left, or_right, or_cases, cond-true, cond-false, cases_Bool, both_ways, false_from_ne_true, lt-ltb}
use Rattle.std.proofs.lemmas.List.Folds.{list_any-append}
use Rattle.std.proofs.lemmas.Option.{slice_get_within}
use Rattle.sy_access.specs.Logs.{same_cell}
use Rattle.sy_access.specs.declared.cells.Cell.{Cell}
use Rattle.sy_access.specs.declared.cells.Cell.TheVariants.{Buffer, Local}
use Rattle.sy_access.proofs.Written.{equal_from_same, same_itself}
use Rattle.sy_range.specs.declared.nd_ranges.Position.{Position}
use Rattle.sy_work.specs.declared.endings.Cause.TheVariants as cause
use Rattle.sy_work.specs.declared.endings.Fault.{Fault}
use Rattle.sy_meaning.specs.declared.runs.Step.{Step}
use Rattle.sy_meaning.specs.declared.runs.Step.TheVariants as steps
use Rattle.sy_meaning.specs.Items.{Failure, Footprint, cell_of, clashes, fault_or, first_clash, is_write, line_of}
use Rattle.sy_meaning.specs.Kernels.{Done, Touched, all_touches, both_done, buffer_steps, done_after, group_clash, is_buffer_cell, log_of, nothing_done, touches_added}
use Rattle.sy_meaning.specs.Orders.{meets}
use Rattle.sy_foot.specs.Earlier.{state_meets}
use Rattle.sy_foot.specs.Footprints.{kept}
use Rattle.sy_foot.specs.GroupLogs.{cell_log}
use Rattle.sy_foot.specs.Numbered.{buffer_cell}
use Rattle.sy_foot.specs.Numbering.{cell_at, number_at}
use Rattle.sy_foot.specs.Runs.{element_at}
use Rattle.sy_foot.specs.Summaries.{meets_at, state_at, states_of, writes_of}
use Rattle.sy_foot.specs.declared.earlier.EarlierGroups.{EarlierGroups}
use Rattle.sy_foot.specs.declared.earlier.State.{State}
use Rattle.sy_foot.specs.declared.entry.Entry.{Entry}
use Rattle.sy_foot.specs.declared.footprint.Footprint as numbered
use Rattle.sy_foot.specs.declared.numbering.CellNumbers.{CellNumbers}
use Rattle.sy_foot.proofs.CellLemmas.{cell-dense, cell-number, low-cell, shared-within}
use Rattle.sy_footlaws.specs.Courses.{Course, all_steps, touched, touches, writes, wrote}
use Rattle.sy_footlaws.specs.Groups.{AreNumbered, GroupsStandFor, writes_made}
use Rattle.sy_footlaws.specs.Kernels.{AreShared, AreStepsOf, first_met, group_met, meets_number, step_met}
use Rattle.sy_footlaws.specs.Standing.{StandsFor}
use Rattle.sy_footlaws.proofs.CourseLemmas.{read-clashes, write-clashes}
use Rattle.sy_footlaws.proofs.GroupLemmas.{clean-calm, meets-clash, meets-told, touched_if}
use Rattle.sy_footlaws.proofs.LogLemmas.{made_append}

or_assoc : (a b c : Bool) → (a || (b || c)) ≡ ((a || b) || c)
or_assoc true b c = refl
or_assoc false b c = refl

-- ---- the steps that touch buffers

either_cons : (b : Bool) (s : Step) (xs ys : List Step) → (if b then s ∷ (xs ++ ys) else xs ++ ys) ≡ (if b then s ∷ xs else xs) ++ ys
either_cons true s xs ys = refl
either_cons false s xs ys = refl

pub buffer-append : (xs ys : List Step) → buffer_steps (xs ++ ys) ≡ buffer_steps xs ++ buffer_steps ys
buffer-append [] ys = refl
buffer-append (s ∷ xs) ys =
    ap (λ l. if is_buffer_cell (cell_of s) then s ∷ l else l) (buffer-append xs ys) ∙ either_cons (is_buffer_cell (cell_of s)) s (buffer_steps xs) (buffer_steps ys)

-- ---- what a phase adds

abbrev pub flat : List Touched → List Step
flat ts = flat_map (λ t. t.1) ts

abbrev pub made : List Footprint → List Step
made fs = flat_map (λ f. f.steps) fs

or_between : (a b c d : Bool) → ((a || b) || (c || d)) ≡ ((a || c) || (b || d))
or_between true b c d = refl
or_between false true true d = refl
or_between false true false d = refl
or_between false false c d = refl

any_flat : (p : Step → Bool) (t : Touched) (ts : List Touched) → list_any p (flat (t ∷ ts)) ≡ (list_any p t.1 || list_any p (flat ts))
any_flat p t ts = list_any-append p t.1 (flat ts)

any_made : (p : Step → Bool) (f : Footprint) (fs : List Footprint) → list_any p (buffer_steps (made (f ∷ fs))) ≡ (list_any p (buffer_steps f.steps) || list_any p (buffer_steps (made fs)))
any_made p f fs = ap (list_any p) (buffer-append f.steps (made fs)) ∙ list_any-append p (buffer_steps f.steps) (buffer_steps (made fs))

or_none : (a : Bool) → a ≡ (a || false)
or_none true = refl
or_none false = refl

pub any-added : (p : Step → Bool) (ts : List Touched) (fs : List Footprint) → list_any p (flat (touches_added ts fs)) ≡ (list_any p (flat ts) || list_any p (buffer_steps (made fs)))
any-added p [] [] = refl
any-added p [] (f ∷ fs) =
    any_flat p (f.position, buffer_steps f.steps) (touches_added [] fs) ∙ (ap (λ b. list_any p (buffer_steps f.steps) || b) (any-added p [] fs) ∙ sym (any_made p f fs))
any-added p (t ∷ ts) [] = or_none (list_any p (flat (t ∷ ts)))
any-added p (t ∷ ts) (f ∷ fs) =
    any_flat p (t.0, t.1 ++ buffer_steps f.steps) (touches_added ts fs) ∙ (ap (λ b. b || list_any p (flat (touches_added ts fs))) (list_any-append p t.1 (buffer_steps f.steps)) ∙ (ap (λ b. (list_any p t.1 || list_any p (buffer_steps f.steps)) || b) (any-added p ts fs) ∙ (or_between (list_any p t.1) (list_any p (buffer_steps f.steps)) (list_any p (flat ts)) (list_any p (buffer_steps (made fs))) ∙ (ap (λ b. b || (list_any p (buffer_steps f.steps) || list_any p (buffer_steps (made fs)))) (sym (any_flat p t ts)) ∙ ap (λ b. list_any p (flat (t ∷ ts)) || b) (sym (any_made p f fs))))))

any_joined : (p : Step → Bool) (ss ts : List Step) → list_any p (buffer_steps (ss ++ ts)) ≡ (list_any p (buffer_steps ss) || list_any p (buffer_steps ts))
any_joined p ss ts = ap (list_any p) (buffer-append ss ts) ∙ list_any-append p (buffer_steps ss) (buffer_steps ts)

phase_any : (p : Step → Bool) (d : Done) (ss : List Step) (fs : List Footprint) → list_any p (all_touches d) ≡ list_any p (buffer_steps ss) → list_any p (all_touches (done_after d fs)) ≡ list_any p (buffer_steps (ss ++ made fs))
phase_any p d ss fs h = any-added p d.touches fs ∙ (ap (λ b. b || list_any p (buffer_steps (made fs))) h ∙ sym (any_joined p ss (made fs)))

pub phase-steps : (d : Done) (ss : List Step) (fs : List Footprint) → AreStepsOf d ss → AreStepsOf (done_after d fs) (ss ++ made fs)
phase-steps d ss fs are =
    record {
      touch = λ c. phase_any (touches c) d ss fs (are.touch c);
      write = λ c. phase_any (writes c) d ss fs (are.write c);
      order = ap (λ l. l ++ writes_made (made fs)) are.order ∙ sym (made_append ss (made fs));
    }

pub no-steps : AreStepsOf nothing_done []
no-steps = record { touch = λ c. refl; write = λ c. refl; order = refl }

flat_joined : (ts us : List Touched) (p : Step → Bool) → list_any p (flat (ts ++ us)) ≡ (list_any p (flat ts) || list_any p (flat us))
flat_joined [] us p = refl
flat_joined (t ∷ ts) us p =
    any_flat p t (ts ++ us) ∙ (ap (λ b. list_any p t.1 || b) (flat_joined ts us p) ∙ (or_assoc (list_any p t.1) (list_any p (flat ts)) (list_any p (flat us)) ∙ ap (λ b. b || list_any p (flat us)) (sym (any_flat p t ts))))

both_any : (p : Step → Bool) (d e : Done) (ss ts : List Step) → list_any p (all_touches d) ≡ list_any p (buffer_steps ss) → list_any p (all_touches e) ≡ list_any p (buffer_steps ts) → list_any p (all_touches (both_done d e)) ≡ list_any p (buffer_steps (ss ++ ts))
both_any p d e ss ts h k =
    flat_joined d.touches e.touches p ∙ (ap (λ b. b || list_any p (all_touches e)) h ∙ (ap (λ b. list_any p (buffer_steps ss) || b) k ∙ sym (any_joined p ss ts)))

pub both-steps : (d e : Done) (ss ts : List Step) → AreStepsOf d ss → AreStepsOf e ts → AreStepsOf (both_done d e) (ss ++ ts)
both-steps d e ss ts a b =
    record {
      touch = λ c. both_any (touches c) d e ss ts (a.touch c) (b.touch c);
      write = λ c. both_any (writes c) d e ss ts (a.write c) (b.write c);
      order = ap (λ l. l ++ e.writes) a.order ∙ (ap (λ l. writes_made ss ++ l) b.order ∙ sym (made_append ss ts));
    }

-- ---- clashes turn on which cells are touched and written alone

record Meeting (ss ts : List Step) : Type 0 where
  cell : Cell
  both : ((touched cell ss ≡ true) × (wrote cell ts ≡ true)) ⊎ ((wrote cell ss ≡ true) × (touched cell ts ≡ true))

own_touch : (s : Step) → touches (cell_of s) s ≡ true
own_touch s = same_itself (cell_of s)

step_meeting : (s : Step) (ss ts : List Step) → list_any (clashes s) ts ≡ true → Meeting (s ∷ ss) ts
step_meeting (steps.Read c line) ss ts h =
    record { cell = c; both = inl (or_left _ _ (same_itself c), sym (read-clashes c line ts) ∙ h) }
step_meeting (steps.Wrote c z line) ss ts h =
    record { cell = c; both = inr (or_left _ _ (ap (λ b. b && true) (same_itself c)), sym (write-clashes c z line ts) ∙ h) }

meeting_more : (s : Step) (ss ts : List Step) → Meeting ss ts → Meeting (s ∷ ss) ts
meeting_more s ss ts m =
    record {
      cell = m.cell;
      both = elim m.both [
        | inl p ↦ inl (or_right (touches m.cell s) _ p.0, p.1)
        | inr p ↦ inr (or_right (writes m.cell s) _ p.0, p.1)
      ];
    }

meeting_of : (ss ts : List Step) → meets ss ts ≡ true → Meeting ss ts
meeting_of [] ts h = absurd cc
meeting_of (s ∷ ss) ts h =
    elim (or_cases (list_any (clashes s) ts) (meets ss ts) h) [
      | inl e ↦ step_meeting s ss ts e
      | inr e ↦ meeting_more s ss ts (meeting_of ss ts e)
    ]

touch_clash : (s : Step) (ts : List Step) (c : Cell) → touches c s ≡ true → wrote c ts ≡ true → list_any (clashes s) ts ≡ true
touch_clash (steps.Read d line) ts c t w = read-clashes d line ts ∙ (ap (λ x. wrote x ts) (sym (equal_from_same c d t)) ∙ w)
touch_clash (steps.Wrote d z line) ts c t w = write-clashes d z line ts ∙ (ap (λ x. touched x ts) (sym (equal_from_same c d t)) ∙ touched_if c ts w)

write_clash : (s : Step) (ts : List Step) (c : Cell) → writes c s ≡ true → touched c ts ≡ true → list_any (clashes s) ts ≡ true
write_clash (steps.Read d line) ts c w t = absurd (both_ways (same_cell c d && false) (and_right (same_cell c d) false refl) w)
write_clash (steps.Wrote d z line) ts c w t =
    write-clashes d z line ts ∙ (ap (λ x. touched x ts) (sym (equal_from_same c d (and_parts (same_cell c d) true w).0)) ∙ t)

touched_meets : (ss ts : List Step) (c : Cell) → touched c ss ≡ true → wrote c ts ≡ true → meets ss ts ≡ true
touched_meets [] ts c t w = absurd cc
touched_meets (s ∷ ss) ts c t w =
    elim (or_cases (touches c s) (touched c ss) t) [
      | inl e ↦ or_left _ _ (touch_clash s ts c e w)
      | inr e ↦ or_right (list_any (clashes s) ts) _ (touched_meets ss ts c e w)
    ]

wrote_meets : (ss ts : List Step) (c : Cell) → wrote c ss ≡ true → touched c ts ≡ true → meets ss ts ≡ true
wrote_meets [] ts c w t = absurd cc
wrote_meets (s ∷ ss) ts c w t =
    elim (or_cases (writes c s) (wrote c ss) w) [
      | inl e ↦ or_left _ _ (write_clash s ts c e t)
      | inr e ↦ or_right (list_any (clashes s) ts) _ (wrote_meets ss ts c e t)
    ]

meets_of : (ss ts : List Step) → Meeting ss ts → meets ss ts ≡ true
meets_of ss ts m =
    elim m.both [ inl p ↦ touched_meets ss ts m.cell p.0 p.1 | inr p ↦ wrote_meets ss ts m.cell p.0 p.1 ]

-- the two lists touch and write the same cells
pub record Alike (xs ys : List Step) : Type 0 where
  pub touch : (c : Cell) → touched c xs ≡ touched c ys
  pub write : (c : Cell) → wrote c xs ≡ wrote c ys

meets_alike : (ss ts xs ys : List Step) → Alike ss xs → Alike ts ys → meets ss ts ≡ true → meets xs ys ≡ true
meets_alike ss ts xs ys a b h =
    let m = meeting_of ss ts h in
    meets_of xs ys (record {
      cell = m.cell;
      both = elim m.both [
        | inl p ↦ inl (sym (a.touch m.cell) ∙ p.0, sym (b.write m.cell) ∙ p.1)
        | inr p ↦ inr (sym (a.write m.cell) ∙ p.0, sym (b.touch m.cell) ∙ p.1)
      ];
    })

back : (xs ys : List Step) → Alike xs ys → Alike ys xs
back xs ys a = record { touch = λ c. sym (a.touch c); write = λ c. sym (a.write c) }

same_bool : (a b : Bool) → (a ≡ true → b ≡ true) → (b ≡ true → a ≡ true) → a ≡ b
same_bool true b to from = sym (to refl)
same_bool false true to from = from refl
same_bool false false to from = refl

pub meets-alike : (ss ts xs ys : List Step) → Alike ss xs → Alike ts ys → meets ss ts ≡ meets xs ys
meets-alike ss ts xs ys a b = same_bool _ _ (meets_alike ss ts xs ys a b) (meets_alike xs ys ss ts (back ss xs a) (back ts ys b))

-- ---- the first clash of a group

either_none : (b : Bool) (x : Failure) (rest : Option Failure) → b ≡ false → (if b then Some x else rest) ≡ rest
either_none b x rest h = cond-false b (Some x) rest h

quiet_steps : (earlier ss : List Step) → meets ss earlier ≡ false → first_clash earlier ss ≡ None
quiet_steps earlier [] h = refl
quiet_steps earlier (s ∷ ss) h = let p = or_parts (list_any (clashes s) earlier) (meets ss earlier) h in cond-false (list_any (clashes s) earlier) _ _ p.0 ∙ quiet_steps earlier ss p.1

meets_append : (ss ts earlier : List Step) → meets (ss ++ ts) earlier ≡ (meets ss earlier || meets ts earlier)
meets_append ss ts earlier = list_any-append (λ s. list_any (clashes s) earlier) ss ts

pub quiet-group : (earlier : List Step) (ts : List Touched) → meets (flat ts) earlier ≡ false → group_clash earlier ts ≡ None
quiet-group earlier [] h = refl
quiet-group earlier (t ∷ ts) h =
    let p = or_parts (meets t.1 earlier) (meets (flat ts) earlier) (sym (meets_append t.1 (flat ts) earlier) ∙ h) in
    ap (λ x. fault_or t.0 x (group_clash earlier ts)) (quiet_steps earlier t.1 p.0) ∙ quiet-group earlier ts p.1

loud_steps : (earlier ss : List Step) → meets ss earlier ≡ true → is_some (first_clash earlier ss) ≡ true
loud_steps earlier [] h = absurd cc
loud_steps earlier (s ∷ ss) h =
    elim (cases_Bool (list_any (clashes s) earlier)) [
      | inl q ↦ ap (λ (o : Option Failure). is_some o) (cond-true (list_any (clashes s) earlier) _ _ q)
      | inr q ↦
          let rest : meets ss earlier ≡ true = elim (or_cases (list_any (clashes s) earlier) (meets ss earlier) h) [ inl e ↦ absurd (both_ways (list_any (clashes s) earlier) q e) | inr e ↦ e ] in
          ap (λ (o : Option Failure). is_some o) (cond-false (list_any (clashes s) earlier) _ _ q) ∙ loud_steps earlier ss rest
    ]

some_fault : (p : Position) (o : Option Failure) (later : Option Fault) → is_some o ≡ true → is_some (fault_or p o later) ≡ true
some_fault p None later h = absurd cc
some_fault p (Some f) later h = refl

later_fault : (p : Position) (o : Option Failure) (later : Option Fault) → is_some later ≡ true → is_some (fault_or p o later) ≡ true
later_fault p None later h = h
later_fault p (Some f) later h = refl

pub loud-group : (earlier : List Step) (ts : List Touched) → meets (flat ts) earlier ≡ true → is_some (group_clash earlier ts) ≡ true
loud-group earlier [] h = absurd cc
loud-group earlier (t ∷ ts) h =
    elim (or_cases (meets t.1 earlier) (meets (flat ts) earlier) (sym (meets_append t.1 (flat ts) earlier) ∙ h)) [
      | inl e ↦ some_fault t.0 (first_clash earlier t.1) (group_clash earlier ts) (loud_steps earlier t.1 e)
      | inr e ↦ later_fault t.0 (first_clash earlier t.1) (group_clash earlier ts) (loud-group earlier ts e)
    ]

-- ---- what absorbing answers

alike_done : (d : Done) (ss : List Step) → AreStepsOf d ss → Alike (all_touches d) (buffer_steps ss)
alike_done d ss are = record { touch = are.touch; write = are.write }

kept_any : (p : Step → Bool) (ss : List Step) → ((s : Step) → p s ≡ true → is_buffer_cell (cell_of s) ≡ true) → list_any p ss ≡ list_any p (buffer_steps ss)
kept_any p [] only = refl
kept_any p (s ∷ ss) only =
    elim (cases_Bool (is_buffer_cell (cell_of s))) [
      | inl q ↦ ap (λ b. p s || b) (kept_any p ss only) ∙ sym (ap (list_any p) (cond-true (is_buffer_cell (cell_of s)) (s ∷ buffer_steps ss) (buffer_steps ss) q))
      | inr q ↦
          let none : p s ≡ false = false_from_ne_true (p s) (λ e. both_ways (is_buffer_cell (cell_of s)) q (only s e)) in
          ap (λ b. b || list_any p ss) none ∙ (kept_any p ss only ∙ sym (ap (list_any p) (cond-false (is_buffer_cell (cell_of s)) (s ∷ buffer_steps ss) (buffer_steps ss) q)))
    ]

touch_buffer : (c : Cell) → is_buffer_cell c ≡ true → (s : Step) → touches c s ≡ true → is_buffer_cell (cell_of s) ≡ true
touch_buffer c b s t = subst (λ (x : Cell). is_buffer_cell x ≡ true) (equal_from_same c (cell_of s) t) b

-- what touches a cell of a step that is kept touches a cell of a buffer
kept_buffer : (ss : List Step) (c : Cell) → touched c (buffer_steps ss) ≡ true → is_buffer_cell c ≡ true
kept_buffer [] c h = absurd cc
kept_buffer (s ∷ ss) c h =
    elim (cases_Bool (is_buffer_cell (cell_of s))) [
      | inl q ↦
          elim (or_cases (touches c s) (touched c (buffer_steps ss)) (sym (ap (touched c) (cond-true (is_buffer_cell (cell_of s)) (s ∷ buffer_steps ss) (buffer_steps ss) q)) ∙ h)) [
            | inl e ↦ subst (λ (x : Cell). is_buffer_cell x ≡ true) (sym (equal_from_same c (cell_of s) e)) q
            | inr e ↦ kept_buffer ss c e
          ]
      | inr q ↦ kept_buffer ss c (sym (ap (touched c) (cond-false (is_buffer_cell (cell_of s)) (s ∷ buffer_steps ss) (buffer_steps ss) q)) ∙ h)
    ]

meeting_cell : (ss ts : List Step) (m : Meeting (buffer_steps ss) ts) → is_buffer_cell m.cell ≡ true
meeting_cell ss ts m =
    elim m.both [ inl p ↦ kept_buffer ss m.cell p.0 | inr p ↦ kept_buffer ss m.cell (touched_if m.cell (buffer_steps ss) p.0) ]

-- local cells of the others don't matter
pub buffer-meets : (ss ts : List Step) → meets (buffer_steps ss) (buffer_steps ts) ≡ meets (buffer_steps ss) ts
buffer-meets ss ts =
    same_bool _ _
    (λ h. let m = meeting_of (buffer_steps ss) (buffer_steps ts) h in
    let b = meeting_cell ss (buffer_steps ts) m in
    let touch = kept_any (touches m.cell) ts (touch_buffer m.cell b) in
    let write = kept_any (writes m.cell) ts (λ s e. touch_buffer m.cell b s (and_parts (touches m.cell s) (is_write s) e).0) in
    meets_of (buffer_steps ss) ts (record { cell = m.cell; both = elim m.both [ inl p ↦ inl (p.0, write ∙ p.1) | inr p ↦ inr (p.0, touch ∙ p.1) ] }))
    (λ h. let m = meeting_of (buffer_steps ss) ts h in
    let b = meeting_cell ss ts m in
    let touch = kept_any (touches m.cell) ts (touch_buffer m.cell b) in
    let write = kept_any (writes m.cell) ts (λ s e. touch_buffer m.cell b s (and_parts (touches m.cell s) (is_write s) e).0) in
    meets_of (buffer_steps ss) (buffer_steps ts) (record { cell = m.cell; both = elim m.both [ inl p ↦ inl (p.0, sym write ∙ p.1) | inr p ↦ inr (p.0, sym touch ∙ p.1) ] }))

kernel_meets : (before d : Done) (ss ts : List Step) → AreStepsOf before ss → AreStepsOf d ts → meets (all_touches d) (all_touches before) ≡ meets (buffer_steps ts) ss
kernel_meets before d ss ts a b =
    meets-alike (all_touches d) (all_touches before) (buffer_steps ts) (buffer_steps ss) (alike_done d ts b) (alike_done before ss a) ∙ buffer-meets ts ss

pub absorbs-calm : (m : CellNumbers) (opening : Cell → ℤ) (g : EarlierGroups) (f : numbered.Footprint) (ss : List Step) (r : Course) (before d : Done) → GroupsStandFor m g ss → StandsFor m opening f r → AreNumbered m (all_steps r) → AreStepsOf before ss → AreStepsOf d (all_steps r) → ((c : ℕ) (e : Entry) → kept f c ≡ Some e → meets_at g c e.wrote ≡ false) → group_clash (all_touches before) d.touches ≡ None
absorbs-calm m opening g f ss r before d groups stands numbers a b clean =
    quiet-group (all_touches before) d.touches (kernel_meets before d ss (all_steps r) a b ∙ clean-calm m opening g f ss r groups stands numbers clean)

-- a cell that groups share is one of a buffer
place_cases : (o : Option (ℕ × ℕ)) → is_some (buffer_cell o) ≡ true → (root : ℕ) × (i : ℕ) × (buffer_cell o ≡ Some (Buffer root i))
place_cases None h = absurd cc
place_cases (Some p) h = (p.0, p.1, refl)

shared_cell : (m : CellNumbers) (n : ℕ) → n < m.shared → (root : ℕ) × (i : ℕ) × (number_at m (Buffer root i) ≡ Some n)
shared_cell m n low =
    let within = shared-within m in
    let there : is_some (cell_at m n) ≡ true = cell-dense m n ∙ lt-ltb n m.count (omega (arith, low, within)) in
    let at = low-cell m n low in
    let p = place_cases (element_at m.buffers.items n) (ap (λ (o : Option Cell). is_some o) (sym at) ∙ there) in
    (p.0, p.1, cell-number m (Buffer p.0 p.1) n (at ∙ p.2))

state_cases : (o : Option State) (w : Bool) → state_meets w o ≡ true → (x : State) × (o ≡ Some x)
state_cases None w h = absurd cc
state_cases (Some x) w h = (x, refl)

pub absorbs-clash : (m : CellNumbers) (opening : Cell → ℤ) (g : EarlierGroups) (f : numbered.Footprint) (ss : List Step) (r : Course) (before d : Done) → GroupsStandFor m g ss → StandsFor m opening f r → AreStepsOf before ss → AreStepsOf d (all_steps r) → (n : ℕ) (e : Entry) → kept f n ≡ Some e → meets_at g n e.wrote ≡ true → is_some (group_clash (all_touches before) d.touches) ≡ true
absorbs-clash m opening g f ss r before d groups stands a b n e is h =
    let x = state_cases (state_at g n) e.wrote h in
    let within : n < length (states_of g) = slice_get_within (states_of g) n x.0 x.1 in
    let shared = groups.shared in
    let cell = shared_cell m n (omega (arith, within, shared)) in
    loud-group (all_touches before) d.touches (kernel_meets before d ss (all_steps r) a b ∙ meets-clash m opening g f ss r cell.0 cell.1 n e groups stands cell.2 is h)

pub kernel-log : (m : CellNumbers) (g : EarlierGroups) (ss : List Step) (d : Done) → GroupsStandFor m g ss → AreStepsOf d ss → cell_log m (writes_of g) ≡ log_of d.writes
kernel-log m g ss d groups are = groups.log ∙ ap log_of (sym are.order)

-- ---- the least item's step

met_told : (m : CellNumbers) (g : EarlierGroups) (ss : List Step) (before : Done) → GroupsStandFor m g ss → AreStepsOf before ss → (s : Step) (c : Cell) (n : ℕ) → cell_of s ≡ c → is_buffer_cell c ≡ true → number_at m c ≡ Some n → list_any (clashes s) (all_touches before) ≡ step_met m g s
met_told m g ss before groups are s (Local slot i) n of_cell b at = absurd (let z : false ≡ true = b in cc)
met_told m g ss before groups are (steps.Read d line) (Buffer root i) n of_cell b at =
    let c = Buffer root i in
    let s = steps.Read d line in
    let same : wrote c ss ≡ wrote c (all_touches before) = kept_any (writes c) ss (λ t e. touch_buffer c b t (and_parts (touches c t) (is_write t) e).0) ∙ sym (are.write c) in
    let number : number_at m (cell_of s) ≡ Some n = ap (number_at m) of_cell ∙ at in
    read-clashes d line (all_touches before) ∙ (ap (λ x. wrote x (all_touches before)) of_cell ∙ (sym same ∙ (ap (λ x. wrote x ss) (sym of_cell) ∙ (sym (read-clashes d line ss) ∙ (sym (meets-told m g ss s root i n groups of_cell at) ∙ sym (ap (meets_number g false) number))))))
met_told m g ss before groups are (steps.Wrote d z line) (Buffer root i) n of_cell b at =
    let c = Buffer root i in
    let s = steps.Wrote d z line in
    let same : touched c ss ≡ touched c (all_touches before) = kept_any (touches c) ss (touch_buffer c b) ∙ sym (are.touch c) in
    let number : number_at m (cell_of s) ≡ Some n = ap (number_at m) of_cell ∙ at in
    write-clashes d z line (all_touches before) ∙ (ap (λ x. touched x (all_touches before)) of_cell ∙ (sym same ∙ (ap (λ x. touched x ss) (sym of_cell) ∙ (sym (write-clashes d z line ss) ∙ (sym (meets-told m g ss s root i n groups of_cell at) ∙ sym (ap (meets_number g true) number))))))

met_steps : (m : CellNumbers) (g : EarlierGroups) (ss : List Step) (before : Done) → GroupsStandFor m g ss → AreStepsOf before ss → (ts : List Step) → AreShared m ts → first_clash (all_touches before) ts ≡ first_met m g ts
met_steps m g ss before groups are [] shared = refl
met_steps m g ss before groups are (s ∷ ts) shared =
    let here : touched (cell_of s) (s ∷ ts) ≡ true = or_left _ _ (same_itself (cell_of s)) in
    let x = shared.numbers (cell_of s) here in
    let one = met_told m g ss before groups are s (cell_of s) x.0 refl (shared.buffers (cell_of s) here) x.1 in
    let rest = met_steps m g ss before groups are ts (record { buffers = λ c h. shared.buffers c (or_right (touches c s) _ h); numbers = λ c h. shared.numbers c (or_right (touches c s) _ h) }) in
    let fault : Option Failure = Some (cause.Clash (cell_of s), line_of s) in
    ap (λ b. if b then fault else first_clash (all_touches before) ts) one ∙ ap (λ o. if step_met m g s then fault else o) rest

pub least-told : (m : CellNumbers) (g : EarlierGroups) (ss : List Step) (before : Done) → GroupsStandFor m g ss → AreStepsOf before ss → (ts : List Touched) → AreShared m (flat ts) → group_clash (all_touches before) ts ≡ group_met m g ts
least-told m g ss before groups are [] shared = refl
least-told m g ss before groups are (t ∷ ts) shared =
    let first : AreShared m t.1 = record { buffers = λ c h. shared.buffers c (any_flat (touches c) t ts ∙ or_left _ _ h); numbers = λ c h. shared.numbers c (any_flat (touches c) t ts ∙ or_left _ _ h) } in
    let rest : AreShared m (flat ts) = record { buffers = λ c h. shared.buffers c (any_flat (touches c) t ts ∙ or_right (touched c t.1) _ h); numbers = λ c h. shared.numbers c (any_flat (touches c) t ts ∙ or_right (touched c t.1) _ h) } in
    ap (λ o. fault_or t.0 o (group_clash (all_touches before) ts)) (met_steps m g ss before groups are t.1 first) ∙ ap (λ o. fault_or t.0 (first_met m g t.1) o) (least-told m g ss before groups are ts rest)
