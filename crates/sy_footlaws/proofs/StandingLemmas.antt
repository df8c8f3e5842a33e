-- What is kept of a group goes on saying what its items did, at each touch and at the end of each item and phase.
use Rattle.std.proofs.Common.{refl, sym, ap, ◌∙◌, subst, inl, inr, arith, ◌≢◌}
use Rattle.std.specs.List.{list_any}
use Rattle.std.specs.Prelude.{Bool, None, Option, Some, false, true, nat_le, nat_lt, ℕ, ℤ, ◌&&◌, ◌+◌, ◌≡◌, ◌≤◌}
use Rattle.std.proofs.lemmas.Bool.{and_left, and_right, and_from, cond-true, cond-false, cases_lt, cases_eq, false_from_ne_true, lt-ltb, le-ltb, le-leb, lt-leb}
use Rattle.sy_access.specs.Logs.{same_cell}
use Rattle.sy_access.specs.declared.cells.Cell.{Cell}
use Rattle.sy_access.proofs.Written.{equal_from_same, same_itself}
use Rattle.sy_meaning.specs.declared.runs.Step.{Step}
use Rattle.sy_meaning.specs.declared.runs.Step.TheVariants as steps
use Rattle.sy_meaning.specs.Items.{cell_of, clashes}
use Rattle.sy_foot.specs.Footprints.{Advances, Notes, after_read, after_write, first_touch, kept, read_clashes, write_clashes}
use Rattle.sy_foot.specs.Numbering.{number_at}
use Rattle.sy_foot.specs.declared.entry.Entry.{Entry}
use Rattle.sy_foot.specs.declared.footprint.Footprint.{Footprint}
use Rattle.sy_foot.specs.declared.numbering.CellNumbers.{CellNumbers}
use Rattle.sy_foot.proofs.CellLemmas.{number-one}
use Rattle.sy_foot.proofs.EarlierLemmas.{seen-parts}
use Rattle.sy_footlaws.specs.Courses.{Course, all_steps, item_ended, nothing_yet, number_after, phase_ended, phase_steps, touched, touches, with_step, writes, wrote}
use Rattle.sy_footlaws.specs.Standing.{EntrySays, Says, StandsFor, by_earlier, in_phase}
use Rattle.sy_footlaws.proofs.CourseLemmas.{all-item, all-more, all-phase, any-now, any-parts, any-same, number-other, number-own, number-read, number-untouched, phase-item, phase-more, read-clashes, write-clashes, write-untouched, wrote-untouched}

and_true : (a : Bool) → (a && true) ≡ a
and_true true = refl
and_true false = refl

-- ---- turns

pub now-in_phase : (s t : ℕ) → s ≤ t → nat_le s t ≡ true
now-in_phase s t h = le-leb s t h

now-by_earlier : (s t : ℕ) → (nat_le s t && nat_lt t t) ≡ false
now-by_earlier s t = and_right _ _ (le-ltb t t (omega arith))

none-in_phase : (s : ℕ) → 1 ≤ s → nat_le s 0 ≡ false
none-in_phase s h = lt-leb s 0 (omega (arith, h))

-- ---- the steps of a course, as far as a test is concerned

phase_same : (p : Step → Bool) (r : Course) (s : Step) → p s ≡ false → list_any p (phase_steps (with_step r s)) ≡ list_any p (phase_steps r)
phase_same p r s h = ap (list_any p) (phase-more r s) ∙ any-same p (phase_steps r) s h

phase_now : (p : Step → Bool) (r : Course) (s : Step) → p s ≡ true → list_any p (phase_steps (with_step r s)) ≡ true
phase_now p r s h = ap (list_any p) (phase-more r s) ∙ any-now p (phase_steps r) s h

all_same : (p : Step → Bool) (r : Course) (s : Step) → p s ≡ false → list_any p (all_steps (with_step r s)) ≡ list_any p (all_steps r)
all_same p r s h = ap (list_any p) (all-more r s) ∙ any-same p (all_steps r) s h

all_now : (p : Step → Bool) (r : Course) (s : Step) → p s ≡ true → list_any p (all_steps (with_step r s)) ≡ true
all_now p r s h = ap (list_any p) (all-more r s) ∙ any-now p (all_steps r) s h

-- ---- a step of another cell

-- the turns are the same
pub record SameTurns (f g : Footprint) : Type 0 where
  pub start : g.start ≡ f.start
  pub turn : g.turn ≡ f.turn

in_same : (f g : Footprint) → SameTurns f g → (t : ℕ) → in_phase g t ≡ in_phase f t
in_same f g same t = ap (λ s. nat_le s t) same.start

by_same : (f g : Footprint) → SameTurns f g → (t : ℕ) → by_earlier g t ≡ by_earlier f t
by_same f g same t = ap (λ s. nat_le s t && nat_lt t g.turn) same.start ∙ ap (λ n. nat_le f.start t && nat_lt t n) same.turn

pub other-says : (f g : Footprint) → SameTurns f g → (z : ℤ) (c : Cell) (r : Course) (s : Step) → touches c s ≡ false → (o : Option Entry) → Says f z c r o → Says g z c (with_step r s) o
other-says f g same z c r s h None said = all_same (touches c) r s h ∙ said
other-says f g same z c r s h (Some e) said =
    let w = write-untouched c s h in
    let turn = same.turn in
    let touch_late = said.touch_by_now in
    let write_late = said.write_by_now in
    record {
      number = said.number ∙ sym (ap (number_after z c) (all-more r s) ∙ number-other z c s (all_steps r) h);
      writing = said.writing ∙ sym (all_same (writes c) r s w);
      touching = all_same (touches c) r s h ∙ said.touching;
      touch_by_now = omega (arith, turn, touch_late);
      touch_in_phase = in_same f g same e.touch ∙ (said.touch_in_phase ∙ sym (phase_same (touches c) r s h));
      touch_by_earlier = by_same f g same e.touch ∙ said.touch_by_earlier;
      write_by_now = omega (arith, turn, write_late);
      write_in_phase = in_same f g same e.write ∙ (said.write_in_phase ∙ sym (phase_same (writes c) r s w));
      write_by_earlier = by_same f g same e.write ∙ said.write_by_earlier;
    }

-- ---- a cell that isn't touched

untouched_phase : (c : Cell) (r : Course) → touched c (all_steps r) ≡ false → touched c (phase_steps r) ≡ false
untouched_phase c r h = (any-parts (touches c) r.before (phase_steps r) h).1

untouched_earlier : (c : Cell) (r : Course) → touched c (all_steps r) ≡ false → touched c r.earlier ≡ false
untouched_earlier c r h = (any-parts (touches c) r.earlier r.own (untouched_phase c r h)).0

-- ---- a read

read_touches : (c : Cell) (line : ℕ) → touches c (steps.Read c line) ≡ true
read_touches c line = same_itself c

read_writes : (c : Cell) (line : ℕ) → writes c (steps.Read c line) ≡ false
read_writes c line = and_right (same_cell c c) false refl

first_read : (f g : Footprint) → SameTurns f g → f.start ≤ f.turn → 1 ≤ f.start → (z : ℤ) (c : Cell) (n line : ℕ) (r : Course) → Says f z c r None → EntrySays g z c (with_step r (steps.Read c line)) (after_read f n z None)
first_read f g same begun counted z c n line r said =
    let s = steps.Read c line in
    let t = read_touches c line in
    let w = read_writes c line in
    let turn = same.turn in
    let phase = untouched_phase c r said in
    let early = untouched_earlier c r said in
    let zero_phase : in_phase g 0 ≡ false = in_same f g same 0 ∙ none-in_phase f.start counted in
    record {
      number = sym (ap (number_after z c) (all-more r s) ∙ (number-read z c c line (all_steps r) ∙ number-untouched z c (all_steps r) said));
      writing = sym (all_same (writes c) r s w ∙ wrote-untouched c (all_steps r) said);
      touching = all_now (touches c) r s t;
      touch_by_now = omega (arith, turn);
      touch_in_phase = in_same f g same f.turn ∙ (now-in_phase f.start f.turn begun ∙ sym (phase_now (touches c) r s t));
      touch_by_earlier = by_same f g same f.turn ∙ (now-by_earlier f.start f.turn ∙ sym early);
      write_by_now = omega arith;
      write_in_phase = zero_phase ∙ sym (phase_same (writes c) r s w ∙ wrote-untouched c (phase_steps r) phase);
      write_by_earlier = and_left _ _ zero_phase ∙ sym (wrote-untouched c r.earlier early);
    }

touch_kept : (f : Footprint) (t : ℕ) → f.start ≤ f.turn → (nat_le f.start (first_touch f t) ≡ true) × ((nat_le f.start (first_touch f t) && nat_lt (first_touch f t) f.turn) ≡ (nat_le f.start t && nat_lt t f.turn)) × (t ≤ f.turn → first_touch f t ≤ f.turn)
touch_kept f t begun =
    elim (cases_lt t f.start) [
      | inl h ↦
          let e : first_touch f t ≡ f.turn = cond-true (nat_lt t f.start) f.turn t (lt-ltb t f.start h) in
          (ap (nat_le f.start) e ∙ le-leb f.start f.turn begun, ap (λ k. nat_le f.start k && nat_lt k f.turn) e ∙ (now-by_earlier f.start f.turn ∙ sym (and_left _ _ (lt-leb f.start t h))), λ k. omega (arith, e))
      | inr h ↦
          let e : first_touch f t ≡ t = cond-false (nat_lt t f.start) f.turn t (le-ltb t f.start h) in
          (ap (nat_le f.start) e ∙ le-leb f.start t h, ap (λ k. nat_le f.start k && nat_lt k f.turn) e, λ k. omega (arith, e, k))
    ]

later_read : (f g : Footprint) → SameTurns f g → f.start ≤ f.turn → (z : ℤ) (c : Cell) (n line : ℕ) (r : Course) (e : Entry) → EntrySays f z c r e → EntrySays g z c (with_step r (steps.Read c line)) (after_read f n z (Some e))
later_read f g same begun z c n line r e said =
    let s = steps.Read c line in
    let t = read_touches c line in
    let w = read_writes c line in
    let turn = same.turn in
    let k = touch_kept f e.touch begun in
    let touch_late = k.2 said.touch_by_now in
    let write_late = said.write_by_now in
    record {
      number = said.number ∙ sym (ap (number_after z c) (all-more r s) ∙ number-read z c c line (all_steps r));
      writing = said.writing ∙ sym (all_same (writes c) r s w);
      touching = all_now (touches c) r s t;
      touch_by_now = omega (arith, turn, touch_late);
      touch_in_phase = in_same f g same (first_touch f e.touch) ∙ (k.0 ∙ sym (phase_now (touches c) r s t));
      touch_by_earlier = by_same f g same (first_touch f e.touch) ∙ (k.1 ∙ said.touch_by_earlier);
      write_by_now = omega (arith, turn, write_late);
      write_in_phase = in_same f g same e.write ∙ (said.write_in_phase ∙ sym (phase_same (writes c) r s w));
      write_by_earlier = by_same f g same e.write ∙ said.write_by_earlier;
    }

read_here : (f g : Footprint) → SameTurns f g → f.start ≤ f.turn → 1 ≤ f.start → (z : ℤ) (c : Cell) (n line : ℕ) (r : Course) (o : Option Entry) → Says f z c r o → EntrySays g z c (with_step r (steps.Read c line)) (after_read f n z o)
read_here f g same begun counted z c n line r None said = first_read f g same begun counted z c n line r said
read_here f g same begun counted z c n line r (Some e) said = later_read f g same begun z c n line r e said

-- ---- clashes

pub read-clash : (f : Footprint) (z : ℤ) (c : Cell) (line : ℕ) (r : Course) (o : Option Entry) → Says f z c r o → read_clashes f o ≡ list_any (clashes (steps.Read c line)) r.earlier
read-clash f z c line r None said = sym (read-clashes c line r.earlier ∙ wrote-untouched c r.earlier (untouched_earlier c r said))
read-clash f z c line r (Some e) said = said.write_by_earlier ∙ sym (read-clashes c line r.earlier)

pub write-clash : (f : Footprint) (z x : ℤ) (c : Cell) (line : ℕ) (r : Course) (o : Option Entry) → Says f z c r o → write_clashes f o ≡ list_any (clashes (steps.Wrote c x line)) r.earlier
write-clash f z x c line r None said = sym (write-clashes c x line r.earlier ∙ untouched_earlier c r said)
write-clash f z x c line r (Some e) said = said.touch_by_earlier ∙ sym (write-clashes c x line r.earlier)

-- ---- a write

write_here : (f g : Footprint) → SameTurns f g → f.start ≤ f.turn → (z x : ℤ) (c : Cell) (n line : ℕ) (r : Course) → touched c r.earlier ≡ false → EntrySays g z c (with_step r (steps.Wrote c x line)) (after_write f n x)
write_here f g same begun z x c n line r early =
    let s = steps.Wrote c x line in
    let t : touches c s ≡ true = same_itself c in
    let w : writes c s ≡ true = and_from _ _ (same_itself c) refl in
    let turn = same.turn in
    let phase : in_phase g f.turn ≡ true = in_same f g same f.turn ∙ now-in_phase f.start f.turn begun in
    let by : by_earlier g f.turn ≡ false = by_same f g same f.turn ∙ now-by_earlier f.start f.turn in
    record {
      number = sym (ap (number_after z c) (all-more r s) ∙ number-own z x c line (all_steps r));
      writing = sym (all_now (writes c) r s w);
      touching = all_now (touches c) r s t;
      touch_by_now = omega (arith, turn);
      touch_in_phase = phase ∙ sym (phase_now (touches c) r s t);
      touch_by_earlier = by ∙ sym early;
      write_by_now = omega (arith, turn);
      write_in_phase = phase ∙ sym (phase_now (writes c) r s w);
      write_by_earlier = by ∙ sym (wrote-untouched c r.earlier early);
    }

-- ---- a touch changes one cell

elsewhere : (m : CellNumbers) (c d : Cell) (n k : ℕ) → number_at m c ≡ Some n → number_at m d ≡ Some k → k ≢ n → same_cell d c ≡ false
elsewhere m c d n k at_c at_d ne =
    false_from_ne_true (same_cell d c) (λ h.
    let same : d ≡ c = equal_from_same d c h in
    let both : number_at m c ≡ Some k = subst (λ (x : Cell). number_at m x ≡ Some k) same at_d in
    ne (let e : Some k ≡ Some n = sym both ∙ at_c in cc))

touched-on : (m : CellNumbers) (opening : Cell → ℤ) (f g : Footprint) (r : Course) (c : Cell) (n : ℕ) (s : Step) (e : Entry) → StandsFor m opening f r → number_at m c ≡ Some n → cell_of s ≡ c → e.cell ≡ n → Notes f g e → EntrySays g (opening c) c (with_step r s) e → StandsFor m opening g (with_step r s)
touched-on m opening f g r c n s e stands at of_c own notes says =
    let same : SameTurns f g = record { start = notes.start; turn = notes.turn } in
    record {
      cells = λ d k at_d. elim (cases_eq k n) [
        | inl here ↦
            let one : d ≡ c = number-one m c d n at (subst (λ j. number_at m d ≡ Some j) here at_d) in
            let it : kept g k ≡ Some e = ap (kept g) (here ∙ sym own) ∙ notes.here in
            subst (λ (o : Option Entry). Says g (opening d) d (with_step r s) o) (sym it) (subst (λ (x : Cell). EntrySays g (opening x) x (with_step r s) e) (sym one) says)
        | inr other ↦
            let it : kept g k ≡ kept f k = notes.others k (λ same_k. other (same_k ∙ own)) in
            let apart : touches d s ≡ false = ap (same_cell d) of_c ∙ elsewhere m c d n k at at_d other in
            subst (λ (o : Option Entry). Says g (opening d) d (with_step r s) o) (sym it) (other-says f g same (opening d) d r s apart (kept f k) (stands.cells d k at_d))
      ];
      begun = let a = notes.start in let b = notes.turn in let h = stands.begun in omega (arith, a, b, h);
      counted = let a = notes.start in let h = stands.counted in omega (arith, a, h);
    }

after_read_cell : (f : Footprint) (n : ℕ) (z : ℤ) (o : Option Entry) → ((e : Entry) → o ≡ Some e → e.cell ≡ n) → (after_read f n z o).cell ≡ n
after_read_cell f n z None own = refl
after_read_cell f n z (Some e) own = own e refl

-- what is kept of a cell is of that cell
pub read-cell : (f : Footprint) (n : ℕ) (z : ℤ) → (after_read f n z (kept f n)).cell ≡ n
read-cell f n z = after_read_cell f n z (kept f n) (λ e is. (seen-parts f.entries.index.items f.entries.entries.items n e is).2)

pub reads-on : (m : CellNumbers) (opening : Cell → ℤ) (f g : Footprint) (r : Course) (c : Cell) (n line : ℕ) → StandsFor m opening f r → number_at m c ≡ Some n → Notes f g (after_read f n (opening c) (kept f n)) → StandsFor m opening g (with_step r (steps.Read c line))
reads-on m opening f g r c n line stands at notes =
    let same : SameTurns f g = record { start = notes.start; turn = notes.turn } in
    touched-on m opening f g r c n (steps.Read c line) (after_read f n (opening c) (kept f n)) stands at refl (read-cell f n (opening c)) notes (read_here f g same stands.begun stands.counted (opening c) c n line r (kept f n) (stands.cells c n at))

pub writes-on : (m : CellNumbers) (opening : Cell → ℤ) (f g : Footprint) (r : Course) (c : Cell) (n line : ℕ) (x : ℤ) → StandsFor m opening f r → number_at m c ≡ Some n → write_clashes f (kept f n) ≡ false → Notes f g (after_write f n x) → StandsFor m opening g (with_step r (steps.Wrote c x line))
writes-on m opening f g r c n line x stands at calm notes =
    let same : SameTurns f g = record { start = notes.start; turn = notes.turn } in
    let early : touched c r.earlier ≡ false = sym (write-clashes c x line r.earlier) ∙ (sym (write-clash f (opening c) x c line r (kept f n) (stands.cells c n at)) ∙ calm) in
    touched-on m opening f g r c n (steps.Wrote c x line) (after_write f n x) stands at refl refl notes (write_here f g same stands.begun (opening c) x c n line r early)

-- ---- the end of an item and of a phase

item_says : (f g : Footprint) → g.start ≡ f.start → g.turn ≡ f.turn + 1 → (z : ℤ) (c : Cell) (r : Course) (o : Option Entry) → Says f z c r o → Says g z c (item_ended r) o
item_says f g start turn z c r None said = ap (touched c) (all-item r) ∙ said
item_says f g start turn z c r (Some e) said =
    let touch_late = said.touch_by_now in
    let write_late = said.write_by_now in
    let by = λ (t : ℕ) (late : t ≤ f.turn). let now : nat_lt t g.turn ≡ true = lt-ltb t g.turn (omega (arith, late, turn)) in let b : by_earlier g t ≡ in_phase f t = ap (λ x. nat_le g.start t && x) now ∙ (and_true (nat_le g.start t) ∙ ap (λ s. nat_le s t) start) in b in
    record {
      number = said.number ∙ sym (ap (number_after z c) (all-item r));
      writing = said.writing ∙ sym (ap (wrote c) (all-item r));
      touching = ap (touched c) (all-item r) ∙ said.touching;
      touch_by_now = omega (arith, turn, touch_late);
      touch_in_phase = ap (λ s. nat_le s e.touch) start ∙ (said.touch_in_phase ∙ sym (ap (touched c) (phase-item r)));
      touch_by_earlier = by e.touch touch_late ∙ said.touch_in_phase;
      write_by_now = omega (arith, turn, write_late);
      write_in_phase = ap (λ s. nat_le s e.write) start ∙ (said.write_in_phase ∙ sym (ap (wrote c) (phase-item r)));
      write_by_earlier = by e.write write_late ∙ said.write_in_phase;
    }

phase_says : (f g : Footprint) → g.start ≡ f.turn + 1 → g.turn ≡ f.turn + 1 → (z : ℤ) (c : Cell) (r : Course) (o : Option Entry) → Says f z c r o → Says g z c (phase_ended r) o
phase_says f g start turn z c r None said = ap (touched c) (all-phase r) ∙ said
phase_says f g start turn z c r (Some e) said =
    let touch_late = said.touch_by_now in
    let write_late = said.write_by_now in
    let past_touch : in_phase g e.touch ≡ false = lt-leb g.start e.touch (omega (arith, touch_late, start)) in
    let past_write : in_phase g e.write ≡ false = lt-leb g.start e.write (omega (arith, write_late, start)) in
    record {
      number = said.number ∙ sym (ap (number_after z c) (all-phase r));
      writing = said.writing ∙ sym (ap (wrote c) (all-phase r));
      touching = ap (touched c) (all-phase r) ∙ said.touching;
      touch_by_now = omega (arith, turn, touch_late);
      touch_in_phase = past_touch;
      touch_by_earlier = and_left _ _ past_touch;
      write_by_now = omega (arith, turn, write_late);
      write_in_phase = past_write;
      write_by_earlier = and_left _ _ past_write;
    }

pub item-ends : (m : CellNumbers) (opening : Cell → ℤ) (f g : Footprint) (r : Course) → StandsFor m opening f r → Advances f g f.start (f.turn + 1) → StandsFor m opening g (item_ended r)
item-ends m opening f g r stands on =
    record {
      cells = λ c n at. subst (λ (o : Option Entry). Says g (opening c) c (item_ended r) o) (sym (on.entries n)) (item_says f g on.begun on.now (opening c) c r (kept f n) (stands.cells c n at));
      begun = let a = on.begun in let b = on.now in let h = stands.begun in omega (arith, a, b, h);
      counted = let a = on.begun in let h = stands.counted in omega (arith, a, h);
    }

pub phase-ends : (m : CellNumbers) (opening : Cell → ℤ) (f g : Footprint) (r : Course) → StandsFor m opening f r → Advances f g (f.turn + 1) (f.turn + 1) → StandsFor m opening g (phase_ended r)
phase-ends m opening f g r stands on =
    record {
      cells = λ c n at. subst (λ (o : Option Entry). Says g (opening c) c (phase_ended r) o) (sym (on.entries n)) (phase_says f g on.begun on.now (opening c) c r (kept f n) (stands.cells c n at));
      begun = let a = on.begun in let b = on.now in omega (arith, a, b);
      counted = let a = on.begun in omega (arith, a);
    }

pub begins : (m : CellNumbers) (opening : Cell → ℤ) (f : Footprint) → ((c : ℕ) → kept f c ≡ None) → f.start ≡ 1 → f.turn ≡ 1 → StandsFor m opening f nothing_yet
begins m opening f none start turn =
    record {
      cells = λ c n at. subst (λ (o : Option Entry). Says f (opening c) c nothing_yet o) (sym (none n)) refl;
      begun = omega (arith, start, turn);
      counted = omega (arith, start);
    }
