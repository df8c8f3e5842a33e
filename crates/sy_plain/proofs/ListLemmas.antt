-- Members of lists that were changed or added to.
use Rattle.std.proofs.Common.{◌≡◌, ◌≢◌, ℕ, zero, suc, ◌<◌, List, [], ◌∷◌, ◌++◌, length, Some, refl, arith, ap, ◌∙◌}
use Rattle.std.specs.Prelude.{slice_get, slice_set}

pub set_same : {A : Type 0} (xs : List A) (k : ℕ) (x : A) → k < length xs → slice_get (slice_set xs k x) k ≡ Some x
set_same [] k x lt = absurd (omega (arith, lt))
set_same (y ∷ ys) zero x lt = refl
set_same (y ∷ ys) (suc k) x lt = set_same ys k x (omega (arith, lt))

pub set_other : {A : Type 0} (xs : List A) (k u : ℕ) (x : A) → u ≢ k → slice_get (slice_set xs k x) u ≡ slice_get xs u
set_other [] k u x ne = refl
set_other (y ∷ ys) zero zero x ne = absurd (ne refl)
set_other (y ∷ ys) zero (suc u) x ne = refl
set_other (y ∷ ys) (suc k) zero x ne = refl
set_other (y ∷ ys) (suc k) (suc u) x ne = set_other ys k u x (λ e. ne (ap suc e))

pub length-set : {A : Type 0} (xs : List A) (k : ℕ) (x : A) → length (slice_set xs k x) ≡ length xs
length-set [] k x = refl
length-set (y ∷ ys) zero x = refl
length-set (y ∷ ys) (suc k) x = ap suc (length-set ys k x)

pub push_before : {A : Type 0} (xs : List A) (x : A) (u : ℕ) → u < length xs → slice_get (xs ++ x ∷ []) u ≡ slice_get xs u
push_before [] x u lt = absurd (omega (arith, lt))
push_before (y ∷ ys) x zero lt = refl
push_before (y ∷ ys) x (suc u) lt = push_before ys x u (omega (arith, lt))

pub push_last : {A : Type 0} (xs : List A) (x : A) (n : ℕ) → n ≡ length xs → slice_get (xs ++ x ∷ []) n ≡ Some x
push_last xs x n e = ap (slice_get (xs ++ x ∷ [])) e ∙ last xs x
  where
    last : {A : Type 0} (xs : List A) (x : A) → slice_get (xs ++ x ∷ []) (length xs) ≡ Some x
    last [] x = refl
    last (y ∷ ys) x = last ys x

pub length-push : {A : Type 0} (xs : List A) (x : A) → length (xs ++ x ∷ []) ≡ suc (length xs)
length-push [] x = refl
length-push (y ∷ ys) x = ap suc (length-push ys x)

pub some_is : {A : Type 0} {x y : A} → Some x ≡ Some y → x ≡ y
some_is p = cc

-- the member at a place within the list
pub member : {A : Type 0} (xs : List A) (u : ℕ) → u < length xs → (x : A) × (slice_get xs u ≡ Some x)
member [] u lt = absurd (omega (arith, lt))
member (x ∷ xs) zero lt = (x, refl)
member (x ∷ xs) (suc u) lt = member xs u (omega (arith, lt))
