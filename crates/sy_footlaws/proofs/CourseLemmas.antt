-- Lists of steps, as far as one cell is concerned.
use Rattle.std.proofs.Common.{refl, sym, ap, ◌∙◌, append_assoc, append-nil}
use Rattle.std.specs.List.{list_any}
use Rattle.std.specs.Prelude.{Bool, List, [], false, true, if◌then◌else◌, ℕ, ℤ, ◌&&◌, ◌||◌, ◌++◌, ◌∷◌, ◌≡◌}
use Rattle.std.proofs.lemmas.Bool.{and_left, or_parts, or_from, or_right, cond-true, cond-false}
use Rattle.std.proofs.lemmas.List.Folds.{list_any-append}
use Rattle.sy_access.specs.Logs.{same_cell}
use Rattle.sy_access.specs.declared.cells.Cell.{Cell}
use Rattle.sy_access.proofs.Written.{same_itself}
use Rattle.sy_meaning.specs.declared.runs.Step.{Step}
use Rattle.sy_meaning.specs.declared.runs.Step.TheVariants as steps
use Rattle.sy_meaning.specs.Items.{clashes}
use Rattle.sy_footlaws.specs.Courses.{Course, all_steps, item_ended, number_after, phase_ended, phase_steps, touched, touches, with_step, writes, wrote}

or_none : (a : Bool) → (a || false) ≡ a
or_none true = refl
or_none false = refl

or_assoc : (a b c : Bool) → (a || (b || c)) ≡ ((a || b) || c)
or_assoc true b c = refl
or_assoc false b c = refl

-- ---- one step more

pub any-more : (p : Step → Bool) (ss : List Step) (s : Step) → list_any p (ss ++ s ∷ []) ≡ (list_any p ss || p s)
any-more p [] s = or_none (p s)
any-more p (t ∷ ss) s = ap (λ b. p t || b) (any-more p ss s) ∙ or_assoc (p t) (list_any p ss) (p s)

pub any-same : (p : Step → Bool) (ss : List Step) (s : Step) → p s ≡ false → list_any p (ss ++ s ∷ []) ≡ list_any p ss
any-same p ss s h = any-more p ss s ∙ (ap (λ b. list_any p ss || b) h ∙ or_none (list_any p ss))

pub any-now : (p : Step → Bool) (ss : List Step) (s : Step) → p s ≡ true → list_any p (ss ++ s ∷ []) ≡ true
any-now p ss s h = any-more p ss s ∙ or_right (list_any p ss) (p s) h

pub number-read : (z : ℤ) (c d : Cell) (line : ℕ) (ss : List Step) → number_after z c (ss ++ steps.Read d line ∷ []) ≡ number_after z c ss
number-read z c d line [] = refl
number-read z c d line (steps.Read e k ∷ ss) = number-read z c d line ss
number-read z c d line (steps.Wrote e y k ∷ ss) = number-read (if same_cell c e then y else z) c d line ss

pub number-wrote : (z x : ℤ) (c d : Cell) (line : ℕ) (ss : List Step) → number_after z c (ss ++ steps.Wrote d x line ∷ []) ≡ (if same_cell c d then x else number_after z c ss)
number-wrote z x c d line [] = refl
number-wrote z x c d line (steps.Read e k ∷ ss) = number-wrote z x c d line ss
number-wrote z x c d line (steps.Wrote e y k ∷ ss) = number-wrote (if same_cell c e then y else z) x c d line ss

pub number-own : (z x : ℤ) (c : Cell) (line : ℕ) (ss : List Step) → number_after z c (ss ++ steps.Wrote c x line ∷ []) ≡ x
number-own z x c line ss = number-wrote z x c c line ss ∙ cond-true (same_cell c c) _ _ (same_itself c)

pub number-other : (z : ℤ) (c : Cell) (s : Step) (ss : List Step) → touches c s ≡ false → number_after z c (ss ++ s ∷ []) ≡ number_after z c ss
number-other z c (steps.Read d line) ss h = number-read z c d line ss
number-other z c (steps.Wrote d x line) ss h = number-wrote z x c d line ss ∙ cond-false (same_cell c d) _ _ h

-- ---- a cell that isn't touched

pub number-untouched : (z : ℤ) (c : Cell) (ss : List Step) → touched c ss ≡ false → number_after z c ss ≡ z
number-untouched z c [] h = refl
number-untouched z c (steps.Read d line ∷ ss) h = number-untouched z c ss (or_parts (same_cell c d) (touched c ss) h).1
number-untouched z c (steps.Wrote d x line ∷ ss) h =
    let p = or_parts (same_cell c d) (touched c ss) h in
    ap (λ y. number_after y c ss) (cond-false (same_cell c d) x z p.0) ∙ number-untouched z c ss p.1

pub wrote-untouched : (c : Cell) (ss : List Step) → touched c ss ≡ false → wrote c ss ≡ false
wrote-untouched c [] h = refl
wrote-untouched c (s ∷ ss) h =
    let p = or_parts (touches c s) (touched c ss) h in or_from (writes c s) (wrote c ss) (and_left _ _ p.0) (wrote-untouched c ss p.1)

pub write-untouched : (c : Cell) (s : Step) → touches c s ≡ false → writes c s ≡ false
write-untouched c s h = and_left _ _ h

-- ---- courses

pub phase-more : (r : Course) (s : Step) → phase_steps (with_step r s) ≡ phase_steps r ++ s ∷ []
phase-more r s = sym (append_assoc r.earlier r.own (s ∷ []))

pub all-more : (r : Course) (s : Step) → all_steps (with_step r s) ≡ all_steps r ++ s ∷ []
all-more r s = ap (λ l. r.before ++ l) (phase-more r s) ∙ sym (append_assoc r.before (phase_steps r) (s ∷ []))

pub phase-item : (r : Course) → phase_steps (item_ended r) ≡ phase_steps r
phase-item r = append-nil (phase_steps r)

pub all-item : (r : Course) → all_steps (item_ended r) ≡ all_steps r
all-item r = ap (λ l. r.before ++ l) (phase-item r)

pub all-phase : (r : Course) → all_steps (phase_ended r) ≡ all_steps r
all-phase r = append-nil (all_steps r)

pub any-parts : (p : Step → Bool) (xs ys : List Step) → list_any p (xs ++ ys) ≡ false → (list_any p xs ≡ false) × (list_any p ys ≡ false)
any-parts p xs ys h = or_parts (list_any p xs) (list_any p ys) (sym (list_any-append p xs ys) ∙ h)

-- ---- clashes

and_true : (a : Bool) → (a && true) ≡ a
and_true true = refl
and_true false = refl

pub read-clashes : (c : Cell) (line : ℕ) (ss : List Step) → list_any (clashes (steps.Read c line)) ss ≡ wrote c ss
read-clashes c line [] = refl
read-clashes c line (s ∷ ss) = ap (λ b. writes c s || b) (read-clashes c line ss)

pub write-clashes : (c : Cell) (z : ℤ) (line : ℕ) (ss : List Step) → list_any (clashes (steps.Wrote c z line)) ss ≡ touched c ss
write-clashes c z line [] = refl
write-clashes c z line (s ∷ ss) =
    ap (λ b. b || list_any (clashes (steps.Wrote c z line)) ss) (and_true (touches c s)) ∙ ap (λ b. touches c s || b) (write-clashes c z line ss)
