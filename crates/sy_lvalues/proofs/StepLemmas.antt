-- The steps from a place on.
use Rattle.std.proofs.Common.{◌≡◌, refl, ℕ, ℤ, zero, suc, ◌+◌, List, [], ◌∷◌, drop, ap, ◌∙◌, arith}
use Rattle.std.specs.Prelude.{MatchOption, None, Option, Some, slice_get}
use Rattle.sy_access.specs.declared.cells.Cell.{Cell}
use Rattle.sy_meaning.specs.declared.runs.Step.{Step}
use Rattle.sy_meaning.specs.Locations.{own}

one_step : (i : ℕ) → suc i ≡ i + 1
one_step i = omega arith

next : (ss : List Step) (i : ℕ) (s : Step) → Some s ≡ slice_get ss i → drop i ss ≡ s ∷ drop (suc i) ss
next [] i s e = cc
next (t ∷ ss) zero s e = cc
next (t ∷ ss) (suc i) s e = next ss i s e

past : (ss : List Step) (i : ℕ) → None ≡ slice_get ss i → drop i ss ≡ drop (suc i) ss
past [] zero e = refl
past [] (suc i) e = refl
past (t ∷ ss) zero e = cc
past (t ∷ ss) (suc i) e = past ss i e

pub wrote_there : (o : Option ℤ) (ss : List Step) (i : ℕ) (s : Step) (c : Cell) → Some s ≡ slice_get ss i → MatchOption o ((earlier : List Step) → own (s ∷ earlier) c ≡ own earlier c) (λ num. (earlier : List Step) → own (s ∷ earlier) c ≡ Some num) → MatchOption o (own (drop i ss) c ≡ own (drop (i + 1) ss) c) (λ num. own (drop i ss) c ≡ Some num)
wrote_there None ss i s c e h = ap (λ l. own l c) (next ss i s e) ∙ h (drop (suc i) ss) ∙ ap (λ n. own (drop n ss) c) (one_step i)
wrote_there (Some z) ss i s c e h = ap (λ l. own l c) (next ss i s e) ∙ h (drop (suc i) ss)

pub none_there : (ss : List Step) (i : ℕ) (c : Cell) → None ≡ slice_get ss i → own (drop i ss) c ≡ own (drop (i + 1) ss) c
none_there ss i c e = ap (λ l. own l c) (past ss i e) ∙ ap (λ n. own (drop n ss) c) (one_step i)
