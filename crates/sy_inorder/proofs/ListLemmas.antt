-- Members of lists by their places.
use Rattle.std.proofs.Common.{◌≡◌, ℕ, zero, suc, ◌+◌, ◌<◌, ◌≤◌, ◌⊎◌, inl, inr, List, [], ◌∷◌, ◌++◌, length, take, drop, Bool, false, Some, None, refl, ap, ◌∙◌, subst, arith}
use Rattle.std.specs.Prelude.{slice_get, slice_set, option_map}
use Rattle.std.specs.List.{list_any}
use Rattle.std.proofs.lemmas.Option.{same_Some, none-some}
use Rattle.sy_onecopy.specs.Each.{changed_at}
use Rattle.sy_inorder.proofs.BoolLemmas.{or_left, or_right}

-- a member of a list with one more at the end is one of the list or the last
pub last_or : {A : Type 0} (xs : List A) (e : A) (k : ℕ) (y : A) → slice_get (xs ++ e ∷ []) k ≡ Some y → (slice_get xs k ≡ Some y) ⊎ ((k ≡ length xs) × (e ≡ y))
last_or [] e zero y h = inr (refl, same_Some e y h)
last_or [] e (suc k) y h = let z : None ≡ Some y = h in absurd (none-some y z)
last_or (x ∷ xs) e zero y h = inl h
last_or (x ∷ xs) e (suc k) y h = elim (last_or xs e k y h) [ inl a ↦ inl a | inr b ↦ inr (ap suc b.0, b.1) ]

pub at_last : {A : Type 0} (xs : List A) (e : A) → slice_get (xs ++ e ∷ []) (length xs) ≡ Some e
at_last [] e = refl
at_last (x ∷ xs) e = at_last xs e

pub take_front : {A : Type 0} (xs : List A) (e : A) (k : ℕ) → k ≤ length xs → take k (xs ++ e ∷ []) ≡ take k xs
take_front xs e zero h = refl
take_front [] e (suc k) h = absurd (omega (arith, h))
take_front (x ∷ xs) e (suc k) h = ap (λ l. x ∷ l) (take_front xs e k (omega (arith, h)))

pub get_front : {A : Type 0} (xs : List A) (e : A) (k : ℕ) → k < length xs → slice_get (xs ++ e ∷ []) k ≡ slice_get xs k
get_front [] e k h = absurd (omega (arith, h))
get_front (x ∷ xs) e zero h = refl
get_front (x ∷ xs) e (suc k) h = get_front xs e k (omega (arith, h))

-- the member at j of a list that was changed at k
pub data WasAt {A : Type 0} (f : A → A) (k : ℕ) (xs : List A) (j : ℕ) (y : A) : Type 0 where
  kept : slice_get xs j ≡ Some y → (j ≡ k → ⊥) → WasAt f k xs j y
  changed : (x : A) → j ≡ k → slice_get xs k ≡ Some x → f x ≡ y → WasAt f k xs j y

pub changed_or : {A : Type 0} (f : A → A) (k : ℕ) (xs : List A) (j : ℕ) (y : A) → slice_get (changed_at f k xs) j ≡ Some y → WasAt f k xs j y
changed_or f k [] j y h = absurd (none-some y h)
changed_or f zero (x ∷ xs) zero y h = changed x refl refl (same_Some (f x) y h)
changed_or f zero (x ∷ xs) (suc j) y h = kept h (λ e. omega (arith, e))
changed_or f (suc k) (x ∷ xs) zero y h = kept h (λ e. omega (arith, e))
changed_or f (suc k) (x ∷ xs) (suc j) y h = elim (changed_or f k xs j y h) [
  | kept a n ↦ kept a (λ e. n (omega (arith, e)))
  | changed z a b c ↦ changed z (ap suc a) b c
]

pub changed_get : {A : Type 0} (f : A → A) (k : ℕ) (xs : List A) (x : A) → slice_get xs k ≡ Some x → slice_get (changed_at f k xs) k ≡ Some (f x)
changed_get f k [] x h = absurd (none-some x h)
changed_get f zero (y ∷ xs) x h = ap (option_map f) h
changed_get f (suc k) (y ∷ xs) x h = changed_get f k xs x h

pub changed_other : {A : Type 0} (f : A → A) (k : ℕ) (xs : List A) (j : ℕ) → (j ≡ k → ⊥) → slice_get (changed_at f k xs) j ≡ slice_get xs j
changed_other f k [] j n = refl
changed_other f zero (x ∷ xs) zero n = absurd (n refl)
changed_other f zero (x ∷ xs) (suc j) n = refl
changed_other f (suc k) (x ∷ xs) zero n = refl
changed_other f (suc k) (x ∷ xs) (suc j) n = changed_other f k xs j (λ e. n (ap suc e))

pub length_changed : {A : Type 0} (f : A → A) (k : ℕ) (xs : List A) → length (changed_at f k xs) ≡ length xs
length_changed f k [] = refl
length_changed f zero (x ∷ xs) = refl
length_changed f (suc k) (x ∷ xs) = ap suc (length_changed f k xs)

-- a member of the first k is one before k
pub in_take : {A : Type 0} (k : ℕ) (xs : List A) (i : ℕ) (x : A) → slice_get (take k xs) i ≡ Some x → (i < k) × (slice_get xs i ≡ Some x)
in_take zero xs i x h = absurd (none-some x h)
in_take (suc k) [] i x h = absurd (none-some x h)
in_take (suc k) (y ∷ xs) zero x h = (omega arith, h)
in_take (suc k) (y ∷ xs) (suc i) x h = let r = in_take k xs i x h in (omega (arith, r.0), r.1)

pub take_has : {A : Type 0} (k : ℕ) (xs : List A) (i : ℕ) (x : A) → i < k → slice_get xs i ≡ Some x → slice_get (take k xs) i ≡ Some x
take_has zero xs i x l h = absurd (omega (arith, l))
take_has (suc k) [] i x l h = h
take_has (suc k) (y ∷ xs) zero x l h = h
take_has (suc k) (y ∷ xs) (suc i) x l h = take_has k xs i x (omega (arith, l)) h

-- a member of those from k on is one at k or later
pub in_drop : {A : Type 0} (k : ℕ) (xs : List A) (i : ℕ) → slice_get (drop k xs) i ≡ slice_get xs (k + i)
in_drop zero xs i = ap (slice_get xs) (let e : i ≡ 0 + i = omega arith in e)
in_drop (suc k) [] i = refl
in_drop (suc k) (x ∷ xs) i = in_drop k xs i ∙ ap (slice_get (x ∷ xs)) (let e : suc (k + i) ≡ suc k + i = omega arith in e)

pub none_at : {A : Type 0} (f : A → Bool) (xs : List A) (i : ℕ) (x : A) → list_any f xs ≡ false → slice_get xs i ≡ Some x → f x ≡ false
none_at f [] i x h g = absurd (none-some x g)
none_at f (y ∷ xs) zero x h g = subst (λ z. f z ≡ false) (same_Some y x g) (or_left (f y) (list_any f xs) h)
none_at f (y ∷ xs) (suc i) x h g = none_at f xs i x (or_right (f y) (list_any f xs) h) g

-- a place of a list that has been set
pub set_same : {A : Type 0} (xs : List A) (k : ℕ) (y : A) → k < length xs → slice_get (slice_set xs k y) k ≡ Some y
set_same [] k y h = absurd (omega (arith, h))
set_same (x ∷ xs) zero y h = refl
set_same (x ∷ xs) (suc k) y h = set_same xs k y (omega (arith, h))

pub set_other : {A : Type 0} (xs : List A) (k : ℕ) (y : A) (j : ℕ) → (j ≡ k → ⊥) → slice_get (slice_set xs k y) j ≡ slice_get xs j
set_other [] k y j h = refl
set_other (x ∷ xs) zero y zero h = absurd (h refl)
set_other (x ∷ xs) zero y (suc j) h = refl
set_other (x ∷ xs) (suc k) y zero h = refl
set_other (x ∷ xs) (suc k) y (suc j) h = set_other xs k y j (λ e. h (ap suc e))

pub take_all : {A : Type 0} (xs : List A) → take (length xs) xs ≡ xs
take_all [] = refl
take_all (x ∷ xs) = ap (λ l. x ∷ l) (take_all xs)

pub length_more : {A : Type 0} (xs : List A) (x : A) → length (xs ++ x ∷ []) ≡ suc (length xs)
length_more [] x = refl
length_more (y ∷ xs) x = ap suc (length_more xs x)

pub length_slice_set : {A : Type 0} (xs : List A) (k : ℕ) (y : A) → length (slice_set xs k y) ≡ length xs
length_slice_set [] k y = refl
length_slice_set (x ∷ xs) zero y = refl
length_slice_set (x ∷ xs) (suc k) y = ap suc (length_slice_set xs k y)
