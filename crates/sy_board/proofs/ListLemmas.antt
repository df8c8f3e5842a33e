-- A change of one member of a list.
use Rattle.std.proofs.Common.{◌≡◌, ℕ, zero, suc, ◌<◌, ◌≤◌, List, [], ◌∷◌, length, refl, arith, ap, sym, get_or}
use Rattle.std.specs.Prelude.{slice_set}
use Rattle.sy_onecopy.specs.Each.{changed_at}

pub changed_at-set : {A : Type 0} (f : A → A) (k : ℕ) (xs : List A) (d : A) → k < length xs → slice_set xs k (f (get_or xs k d)) ≡ changed_at f k xs
changed_at-set f k [] d lt = absurd (omega (arith, lt))
changed_at-set f zero (x ∷ xs) d lt = refl
changed_at-set f (suc k) (x ∷ xs) d lt = ap (λ l. x ∷ l) (changed_at-set f k xs d (omega (arith, lt)))

pub changed_at-past : {A : Type 0} (f : A → A) (k : ℕ) (xs : List A) → length xs ≤ k → xs ≡ changed_at f k xs
changed_at-past f k [] le = refl
changed_at-past f zero (x ∷ xs) le = absurd (omega (arith, le))
changed_at-past f (suc k) (x ∷ xs) le = ap (λ l. x ∷ l) (changed_at-past f k xs (omega (arith, le)))

-- a member that the function leaves as it is
pub changed_at-same : {A : Type 0} (f : A → A) (k : ℕ) (xs : List A) (d : A) → f (get_or xs k d) ≡ get_or xs k d → xs ≡ changed_at f k xs
changed_at-same f k [] d e = refl
changed_at-same f zero (x ∷ xs) d e = ap (λ y. y ∷ xs) (sym e)
changed_at-same f (suc k) (x ∷ xs) d e = ap (λ l. x ∷ l) (changed_at-same f k xs d e)
