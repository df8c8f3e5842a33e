-- Lists at a place: what is read there, what is written, and a list that is filled up to a place.
use Rattle.std.proofs.Common.{◌≡◌, refl, ℕ, zero, suc, ◌<◌, ◌≤◌, List, [], ◌∷◌, ◌++◌, length, ap, ◌∙◌, arith}
use Rattle.std.specs.Prelude.{None, slice_get, slice_index_or, slice_set, unwrap_or}
use Rattle.std.proofs.lemmas.Option.{unwrap_or-slice_get}
use Rattle.std.proofs.lemmas.List.{set-set}
use Rattle.sy_meaning.specs.Frame.{put_at}
use Rattle.sy_meaning.specs.Words.{Object, nothing}

pub not_there : {A : Type 0} (xs : List A) (i : ℕ) (d : A) → None ≡ slice_get xs i → d ≡ slice_index_or xs i d
not_there xs i d e = ap (λ o. unwrap_or o d) e ∙ unwrap_or-slice_get xs i d

-- what was taken out and put back is written over
pub written_over : {A : Type 0} (xs ys zs : List A) (i : ℕ) (left x : A) → ys ≡ slice_set xs i left → zs ≡ slice_set ys i x → zs ≡ slice_set xs i x
written_over xs ys zs i left x e f = f ∙ ap (λ l. slice_set l i x) e ∙ set-set xs i left x

-- filling up to a place changes nothing of what is put there
pub filled_up : (n : ℕ) (o : Object) (xs : List Object) → length xs ≤ n → put_at n o (xs ++ nothing ∷ []) ≡ put_at n o xs
filled_up zero o [] h = refl
filled_up zero o (x ∷ xs) h = absurd (omega (arith, h))
filled_up (suc n) o [] h = refl
filled_up (suc n) o (x ∷ xs) h = let le : length xs ≤ n = omega (arith, h) in ap (λ l. x ∷ l) (filled_up n o xs le)

pub put_inside : (n : ℕ) (o : Object) (xs : List Object) → n < length xs → slice_set xs n o ≡ put_at n o xs
put_inside zero o [] h = absurd (omega (arith, h))
put_inside zero o (x ∷ xs) h = refl
put_inside (suc n) o [] h = absurd (omega (arith, h))
put_inside (suc n) o (x ∷ xs) h = let lt : n < length xs = omega (arith, h) in ap (λ l. x ∷ l) (put_inside n o xs lt)
