-- Where nothing clashes, the next store is the same in whatever order the items are taken.
use Rattle.std.proofs.Common.{refl}
use Rattle.std.specs.List.{list_any}
use Rattle.std.specs.Prelude.{Bool, List, None, Option, Some, [], false, filter_map, flat_map, if◌then◌else◌, reverse, suc, true, zero, ℕ, ℤ, ◌&&◌, ◌++◌, ◌||◌, ◌∷◌, ◌≡◌, ◌⊎◌}
use Rattle.sy_access.specs.Logs.{is_logged, logged, same_cell}
use Rattle.sy_access.specs.declared.cells.Cell.{Cell}
use Rattle.sy_work.specs.declared.endings.Fault.{Fault}
use Rattle.sy_meaning.specs.declared.runs.Step.{Step}
use Rattle.sy_meaning.specs.declared.runs.Step.TheVariants as steps
use Rattle.sy_meaning.specs.declared.runs.Store.{Store}
use Rattle.sy_meaning.specs.Items.{Footprint, cell_of, clashes, failed, first_fault, is_write, or_stops, phase, write_of, writes_in, written}
use Rattle.sy_meaning.specs.Orders.{Fails, Holds, SameStore, exchanged, meets, reordered}
use Rattle.sy_meaning.proofs.ClashLemmas.{Quiet, fault_from, meets_parts, meets_sym, quiet_exchanged, quiet_from}
use Rattle.std.proofs.Common.{sym, ap, ◌∙◌, subst, inl, inr, append_assoc}
use Rattle.std.proofs.lemmas.Bool.{cases_Bool, or_parts, or_from, and_right, cond-false, both_ways}
use mathlib.Core.List.{reverse-cons}
use Rattle.std.proofs.lemmas.List.{reverse-append}
use Rattle.std.proofs.lemmas.List.Elements.{filter_map-append}
use Rattle.sy_access.proofs.Written.{equal_from_same, same_itself}

-- ---- what a list of cells has for a cell

pub logged_behind : (a x y : List (Cell × ℤ)) (c : Cell) → logged x c ≡ logged y c → logged (a ++ x) c ≡ logged (a ++ y) c
logged_behind [] x y c h = h
logged_behind (w ∷ a) x y c h = ap (λ r. if same_cell w.0 c then Some w.1 else r) (logged_behind a x y c h)

pub logged_skip : (a x : List (Cell × ℤ)) (c : Cell) → is_logged a c ≡ false → logged (a ++ x) c ≡ logged x c
logged_skip [] x c h = refl
logged_skip (w ∷ a) x c h =
    let p = or_parts (same_cell w.0 c) (is_logged a c) h in
    cond-false (same_cell w.0 c) (Some w.1) (logged (a ++ x) c) p.0 ∙ logged_skip a x c p.1

-- two lists of which one doesn't name the cell, in either order
pub logged_swap : (a b x : List (Cell × ℤ)) (c : Cell) → (is_logged a c ≡ true → is_logged b c ≡ false) → logged (a ++ (b ++ x)) c ≡ logged (b ++ (a ++ x)) c
logged_swap a b x c apart =
    elim (cases_Bool (is_logged a c)) [
      | inr n ↦ logged_skip a (b ++ x) c n ∙ sym (logged_behind b (a ++ x) x c (logged_skip a x c n))
      | inl y ↦ logged_behind a (b ++ x) x c (logged_skip b x c (apart y)) ∙ sym (logged_skip b (a ++ x) c (apart y))
    ]

-- ---- the writes of an item

-- the last write stands first
abbrev pub cells_of : List Step → List (Cell × ℤ)
cells_of ss = reverse (filter_map write_of ss)

or_grouped : (x y z : Bool) → (x || (y || z)) ≡ ((x || y) || z)
or_grouped true y z = refl
or_grouped false y z = refl

or_none : (x : Bool) → (x || false) ≡ x
or_none true = refl
or_none false = refl

logged_append : (a b : List (Cell × ℤ)) (c : Cell) → is_logged (a ++ b) c ≡ (is_logged a c || is_logged b c)
logged_append [] b c = refl
logged_append (w ∷ a) b c = ap (λ x. same_cell w.0 c || x) (logged_append a b c) ∙ or_grouped (same_cell w.0 c) (is_logged a c) (is_logged b c)

-- a write of the cell is among the steps
abbrev pub writes_cell : List Step → Cell → Bool
writes_cell ss c = list_any (λ s. is_write s && same_cell (cell_of s) c) ss

or_comm : (x y : Bool) → (x || y) ≡ (y || x)
or_comm true true = refl
or_comm true false = refl
or_comm false true = refl
or_comm false false = refl

pub logged_cells : (ss : List Step) (c : Cell) → is_logged (cells_of ss) c ≡ writes_cell ss c
logged_cells [] c = refl
logged_cells (steps.Read d line ∷ ss) c = logged_cells ss c
logged_cells (steps.Wrote d z line ∷ ss) c =
    ap (λ l. is_logged l c) (reverse-cons (d, z) (filter_map write_of ss)) ∙ (logged_append (cells_of ss) ((d, z) ∷ []) c ∙ (ap (λ x. x || (same_cell d c || false)) (logged_cells ss c) ∙ (or_comm (writes_cell ss c) (same_cell d c || false) ∙ ap (λ x. x || writes_cell ss c) (or_none (same_cell d c)))))

and_both : (x y : Bool) → (x && y) ≡ true → (x ≡ true) × (y ≡ true)
and_both true y h = (refl, h)
and_both false y h = absurd cc

-- two touches of one cell, of which the first is a write
clash_of : (s t : Step) (c : Cell) → is_write s ≡ true → same_cell (cell_of s) c ≡ true → same_cell (cell_of t) c ≡ true → clashes s t ≡ true
clash_of s t c w a b =
    let e : cell_of s ≡ c = equal_from_same (cell_of s) c a in
    let d : cell_of t ≡ c = equal_from_same (cell_of t) c b in
    let same : same_cell (cell_of s) (cell_of t) ≡ true = (let P = λ (x : Cell). same_cell (cell_of s) x ≡ true in subst P (e ∙ sym d) (same_itself (cell_of s))) in
    ap (λ x. x && (is_write s || is_write t)) same ∙ ap (λ x. x || is_write t) w

-- a write that clashes with no step of a list: no step there writes its cell
no_write : (s t : Step) (c : Cell) → is_write s ≡ true → same_cell (cell_of s) c ≡ true → clashes s t ≡ false → (is_write t && same_cell (cell_of t) c) ≡ false
no_write s t c w same apart =
    elim (cases_Bool (same_cell (cell_of t) c)) [
      | inr e ↦ and_right (is_write t) (same_cell (cell_of t) c) e
      | inl e ↦ absurd (both_ways (clashes s t) apart (clash_of s t c w same e))
    ]

no_writes : (s : Step) (ts : List Step) (c : Cell) → is_write s ≡ true → same_cell (cell_of s) c ≡ true → list_any (clashes s) ts ≡ false → writes_cell ts c ≡ false
no_writes s [] c w same h = refl
no_writes s (t ∷ ts) c w same h =
    let p = or_parts (clashes s t) (list_any (clashes s) ts) h in
    or_from (is_write t && same_cell (cell_of t) c) (writes_cell ts c) (no_write s t c w same p.0) (no_writes s ts c w same p.1)

pub one_writes : (ss ts : List Step) (c : Cell) → meets ss ts ≡ false → writes_cell ss c ≡ true → writes_cell ts c ≡ false
one_writes [] ts c apart h = absurd cc
one_writes (s ∷ ss) ts c apart h =
    let p = or_parts (list_any (clashes s) ts) (meets ss ts) apart in
    elim (cases_Bool (is_write s && same_cell (cell_of s) c)) [
      | inl e ↦ (let q = and_both (is_write s) (same_cell (cell_of s) c) e in no_writes s ts c q.0 q.1 p.0)
      | inr e ↦ one_writes ss ts c p.1 (sym (ap (λ x. x || writes_cell ss c) e) ∙ h)
    ]

pub cells_apart : (ss ts : List Step) (c : Cell) → meets ss ts ≡ false → is_logged (cells_of ss) c ≡ true → is_logged (cells_of ts) c ≡ false
cells_apart ss ts c apart h = logged_cells ts c ∙ one_writes ss ts c apart (sym (logged_cells ss c) ∙ h)

-- ---- the next store

abbrev pub cells_after : List (Cell × ℤ) → List Footprint → List (Cell × ℤ)
cells_after x [] = x
cells_after x (f ∷ fs) = cells_after (cells_of f.steps ++ x) fs

pub written_is : (x : List (Cell × ℤ)) (fs : List Footprint) → reverse (writes_in fs) ++ x ≡ cells_after x fs
written_is x [] = refl
written_is x (f ∷ fs) =
    ap (λ l. reverse l ++ x) (filter_map-append write_of f.steps (flat_map (λ g. g.steps) fs)) ∙ (ap (λ l. l ++ x) (reverse-append (filter_map write_of f.steps) (writes_in fs)) ∙ (append_assoc (reverse (writes_in fs)) (cells_of f.steps) x ∙ written_is (cells_of f.steps ++ x) fs))

pub after_same : (x y : List (Cell × ℤ)) (fs : List Footprint) (c : Cell) → logged x c ≡ logged y c → logged (cells_after x fs) c ≡ logged (cells_after y fs) c
after_same x y [] c h = h
after_same x y (f ∷ fs) c h = after_same (cells_of f.steps ++ x) (cells_of f.steps ++ y) fs c (logged_behind (cells_of f.steps) x y c h)

pub after_exchanged : (k : ℕ) (e : List Step) (x : List (Cell × ℤ)) (fs : List Footprint) (c : Cell) → Quiet e fs → logged (cells_after x (exchanged k fs)) c ≡ logged (cells_after x fs) c
after_exchanged k e x [] c q = refl
after_exchanged k e x (f ∷ []) c q = refl
after_exchanged zero e x (f ∷ g ∷ fs) c (trap, apart, others) =
    let p = meets_parts g.steps e f.steps others.1 in
    after_same (cells_of f.steps ++ (cells_of g.steps ++ x)) (cells_of g.steps ++ (cells_of f.steps ++ x)) fs c (logged_swap (cells_of f.steps) (cells_of g.steps) x c (cells_apart f.steps g.steps c (meets_sym g.steps f.steps p.1)))
after_exchanged (suc k) e x (f ∷ g ∷ fs) c (trap, apart, rest) = after_exchanged k (e ++ f.steps) (cells_of f.steps ++ x) (g ∷ fs) c rest

pub quiet_reordered : (ks : List ℕ) (e : List Step) (fs : List Footprint) → Quiet e fs → Quiet e (reordered ks fs)
quiet_reordered [] e fs q = q
quiet_reordered (k ∷ ks) e fs q = quiet_reordered ks e (exchanged k fs) (quiet_exchanged k e fs q)

pub after_reordered : (ks : List ℕ) (e : List Step) (x : List (Cell × ℤ)) (fs : List Footprint) (c : Cell) → Quiet e fs → logged (cells_after x (reordered ks fs)) c ≡ logged (cells_after x fs) c
after_reordered [] e x fs c q = refl
after_reordered (k ∷ ks) e x fs c q =
    after_reordered ks e x (exchanged k fs) c (quiet_exchanged k e fs q) ∙ after_exchanged k e x fs c q

-- ---- the laws

pub fault_reordered : (ks : List ℕ) (fs : List Footprint) → first_fault [] fs ≡ None → first_fault [] (reordered ks fs) ≡ None
fault_reordered ks fs h = fault_from [] (reordered ks fs) (quiet_reordered ks [] fs (quiet_from [] fs h))

pub store_reordered : (ks : List ℕ) (fs : List Footprint) (s : Store) → first_fault [] fs ≡ None → SameStore (written s (reordered ks fs)) (written s fs)
store_reordered ks fs s h c =
    ap (λ l. logged l c) (written_is s.cells (reordered ks fs)) ∙ (after_reordered ks [] s.cells fs c (quiet_from [] fs h) ∙ sym (ap (λ l. logged l c) (written_is s.cells fs)))

-- ---- clashes fail the phase

behind_one : (ss e : List Step) (between : List Footprint) (g : Footprint) (after : List Footprint) → ((ts : List Step) → meets ts e ≡ false → meets ts ss ≡ false) → Quiet e (between ++ g ∷ after) → meets g.steps ss ≡ false
behind_one ss e [] g after less (trap, apart, rest) = less g.steps apart
behind_one ss e (h ∷ between) g after less (trap, apart, rest) = behind_one ss (e ++ h.steps) between g after (λ ts m. less ts (meets_parts ts e h.steps m).0) rest

pub two_apart : (e : List Step) (before : List Footprint) (f : Footprint) (between : List Footprint) (g : Footprint) (after : List Footprint) → Quiet e (before ++ f ∷ (between ++ g ∷ after)) → meets g.steps f.steps ≡ false
two_apart e [] f between g after (trap, apart, rest) = behind_one f.steps (e ++ f.steps) between g after (λ ts m. (meets_parts ts e f.steps m).1) rest
two_apart e (h ∷ before) f between g after (trap, apart, rest) = two_apart (e ++ h.steps) before f between g after rest

stops_failed : (fs : List Footprint) (x : Fault) → or_stops fs (Some x) ≡ failed x
stops_failed [] x = refl
stops_failed (f ∷ fs) x = refl

phase_or_quiet : (fs : List Footprint) (x : Option Fault) → first_fault [] fs ≡ x → Fails (phase fs) ⊎ (first_fault [] fs ≡ None)
phase_or_quiet fs None e = inr e
phase_or_quiet fs (Some x) e = inl (x, ap (or_stops fs) e ∙ stops_failed fs x)

pub calm : (fs : List Footprint) → Holds (phase fs) → first_fault [] fs ≡ None
calm fs h =
    elim (phase_or_quiet fs (first_fault [] fs) refl) [
      | inl bad ↦ absurd (h bad.0 bad.1)
      | inr good ↦ good
    ]

pub clash_fails : (before : List Footprint) (f : Footprint) (between : List Footprint) (g : Footprint) (after : List Footprint) → meets g.steps f.steps ≡ true → Fails (phase (before ++ f ∷ (between ++ g ∷ after)))
clash_fails before f between g after clash =
    let fs = before ++ f ∷ (between ++ g ∷ after) in
    elim (phase_or_quiet fs (first_fault [] fs) refl) [
      | inl bad ↦ bad
      | inr good ↦ absurd (both_ways (meets g.steps f.steps) (two_apart [] before f between g after (quiet_from [] fs good)) clash)
    ]
