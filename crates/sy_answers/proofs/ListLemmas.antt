-- Members of lists that were set, mapped, joined or changed.
use Rattle.std.proofs.Common.{◌≡◌, ◌≢◌, ◌⊎◌, ℕ, zero, suc, ◌-◌, ◌<◌, ◌≤◌, List, [], ◌∷◌, ◌++◌, length, map, take, drop, Some, refl, ap, inl, inr, arith, length-take, length-drop}
use Rattle.std.specs.Prelude.{slice_get, slice_set}
use Rattle.sy_needs.specs.Each.{each_from}

pub same_or_not : (a b : ℕ) → (a ≡ b) ⊎ (a ≢ b)
same_or_not zero zero = inl refl
same_or_not zero (suc b) = inr (λ p. omega (arith, p))
same_or_not (suc a) zero = inr (λ p. omega (arith, p))
same_or_not (suc a) (suc b) =
    elim (same_or_not a b) [
      | inl p ↦ inl (ap suc p)
      | inr n ↦ inr (λ p. n (omega (arith, p)))
    ]

pub below_or_not : (a b : ℕ) → (a < b) ⊎ (b ≤ a)
below_or_not a zero = inr (omega arith)
below_or_not zero (suc b) = inl (omega arith)
below_or_not (suc a) (suc b) =
    elim (below_or_not a b) [
      | inl p ↦ inl (omega (arith, p))
      | inr p ↦ inr (omega (arith, p))
    ]

pub set_same : {A : Type 0} (xs : List A) (t : ℕ) (x y : A) → slice_get (slice_set xs t x) t ≡ Some y → y ≡ x
set_same [] t x y h = cc
set_same (z ∷ xs) zero x y h = cc
set_same (z ∷ xs) (suc t) x y h = set_same xs t x y h

pub set_other : {A : Type 0} (xs : List A) (t u : ℕ) (x : A) → u ≢ t → slice_get (slice_set xs t x) u ≡ slice_get xs u
set_other [] t u x n = refl
set_other (z ∷ xs) zero zero x n = absurd (n refl)
set_other (z ∷ xs) zero (suc u) x n = refl
set_other (z ∷ xs) (suc t) zero x n = refl
set_other (z ∷ xs) (suc t) (suc u) x n = set_other xs t u x (λ p. n (ap suc p))

pub set_there : {A : Type 0} (xs : List A) (t : ℕ) (x y : A) → slice_get xs t ≡ Some y → slice_get (slice_set xs t x) t ≡ Some x
set_there [] t x y h = cc
set_there (z ∷ xs) zero x y h = refl
set_there (z ∷ xs) (suc t) x y h = set_there xs t x y h

-- a member of a mapped list is what became of one
pub record Mapped {A B : Type 0} (f : A → B) (xs : List A) (u : ℕ) (y : B) : Type 0 where
  pub from : A
  pub at : slice_get xs u ≡ Some from
  pub made : f from ≡ y

pub map_at : {A B : Type 0} (f : A → B) (xs : List A) (u : ℕ) (y : B) → slice_get (map f xs) u ≡ Some y → Mapped f xs u y
map_at f [] u y h = cc
map_at f (x ∷ xs) zero y h = record { from = x; at = refl; made = cc }
map_at f (x ∷ xs) (suc u) y h =
    let m = map_at f xs u y h in
    record { from = m.from; at = m.at; made = m.made }

pub more_at : {A : Type 0} (xs : List A) (x y : A) (k : ℕ) → slice_get (xs ++ x ∷ []) k ≡ Some y → (slice_get xs k ≡ Some y) ⊎ ((k ≡ length xs) × (y ≡ x))
more_at [] x y zero h = inr (refl, cc)
more_at [] x y (suc k) h = cc
more_at (z ∷ xs) x y zero h = inl h
more_at (z ∷ xs) x y (suc k) h =
    elim (more_at xs x y k h) [
      | inl p ↦ inl p
      | inr p ↦ inr (ap suc p.0, p.1)
    ]

pub more_kept : {A : Type 0} (xs : List A) (x y : A) (k : ℕ) → slice_get xs k ≡ Some y → slice_get (xs ++ x ∷ []) k ≡ Some y
more_kept [] x y k h = cc
more_kept (z ∷ xs) x y zero h = h
more_kept (z ∷ xs) x y (suc k) h = more_kept xs x y k h

pub last_at : {A : Type 0} (xs : List A) (x : A) → slice_get (xs ++ x ∷ []) (length xs) ≡ Some x
last_at [] x = refl
last_at (z ∷ xs) x = last_at xs x

pub length-more : {A : Type 0} (xs : List A) (x : A) → length (xs ++ x ∷ []) ≡ suc (length xs)
length-more [] x = refl
length-more (z ∷ xs) x = ap suc (length-more xs x)

pub length-each_from : {A B : Type 0} (f : ℕ → A → B) (k : ℕ) (xs : List A) → length (each_from f k xs) ≡ length xs
length-each_from f k [] = refl
length-each_from f k (x ∷ xs) = ap suc (length-each_from f (suc k) xs)

pub length-run : {A : Type 0} (xs : List A) (from to : ℕ) → to ≤ length xs → length (take (to - from) (drop from xs)) ≡ to - from
length-run xs from to h = simp (length-take, length-drop) (omega arith)

pub more_before : {A : Type 0} (xs : List A) (x : A) (k : ℕ) → k < length xs → slice_get (xs ++ x ∷ []) k ≡ slice_get xs k
more_before [] x k h = absurd (omega (arith, h))
more_before (z ∷ xs) x zero h = refl
more_before (z ∷ xs) x (suc k) h = more_before xs x k (omega (arith, h))
