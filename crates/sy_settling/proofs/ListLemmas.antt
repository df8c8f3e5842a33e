-- Lists with one member changed, set or added.
use Rattle.std.proofs.Common.{◌≡◌, ◌≢◌, ℕ, zero, suc, ◌+◌, ◌<◌, ◌≤◌, List, [], ◌∷◌, ◌++◌, length, take, set, Bool, true, false, Some, refl, sym, ap, ◌∙◌, subst, arith}
use Rattle.std.specs.Prelude.{slice_get, option_map, ◌||◌, ◌&&◌, not}
use Rattle.std.specs.List.{list_any}
use Rattle.sy_onecopy.specs.Each.{changed_at}
use Rattle.sy_needs.specs.Each.{each_from}

pub other_suc : {j k : ℕ} → suc j ≢ suc k → j ≢ k
other_suc h e = h (ap suc e)

pub some_is : {A : Type 0} {x y : A} → Some x ≡ Some y → x ≡ y
some_is p = cc

-- ---- one member changed

pub get-changed : {A : Type 0} (f : A → A) (k : ℕ) (xs : List A) → slice_get (changed_at f k xs) k ≡ option_map f (slice_get xs k)
get-changed f k [] = refl
get-changed f zero (x ∷ xs) = refl
get-changed f (suc k) (x ∷ xs) = get-changed f k xs

pub get-changed_other : {A : Type 0} (f : A → A) (k j : ℕ) (xs : List A) → j ≢ k → slice_get (changed_at f k xs) j ≡ slice_get xs j
get-changed_other f k j [] h = refl
get-changed_other f zero zero (x ∷ xs) h = absurd (h refl)
get-changed_other f zero (suc j) (x ∷ xs) h = refl
get-changed_other f (suc k) zero (x ∷ xs) h = refl
get-changed_other f (suc k) (suc j) (x ∷ xs) h = get-changed_other f k j xs (other_suc h)

pub changed-swap : {A : Type 0} (f g : A → A) (j k : ℕ) (xs : List A) → j ≢ k → changed_at f j (changed_at g k xs) ≡ changed_at g k (changed_at f j xs)
changed-swap f g j k [] h = refl
changed-swap f g zero zero (x ∷ xs) h = absurd (h refl)
changed-swap f g zero (suc k) (x ∷ xs) h = refl
changed-swap f g (suc j) zero (x ∷ xs) h = refl
changed-swap f g (suc j) (suc k) (x ∷ xs) h = ap (λ l. x ∷ l) (changed-swap f g j k xs (other_suc h))

pub length-changed : {A : Type 0} (f : A → A) (k : ℕ) (xs : List A) → length (changed_at f k xs) ≡ length xs
length-changed f k [] = refl
length-changed f zero (x ∷ xs) = refl
length-changed f (suc k) (x ∷ xs) = ap suc (length-changed f k xs)

pub changed-append : {A : Type 0} (f : A → A) (k : ℕ) (xs ys : List A) → k < length xs → changed_at f k (xs ++ ys) ≡ changed_at f k xs ++ ys
changed-append f k [] ys lt = absurd (omega arith)
changed-append f zero (x ∷ xs) ys lt = refl
changed-append f (suc k) (x ∷ xs) ys lt = ap (λ l. x ∷ l) (changed-append f k xs ys (omega arith))

pub take-changed : {A : Type 0} (f : A → A) (n k : ℕ) (xs : List A) → take n (changed_at f k xs) ≡ changed_at f k (take n xs)
take-changed f zero k xs = refl
take-changed f (suc n) k [] = refl
take-changed f (suc n) zero (x ∷ xs) = refl
take-changed f (suc n) (suc k) (x ∷ xs) = ap (λ l. x ∷ l) (take-changed f n k xs)

pub take-changed_past : {A : Type 0} (f : A → A) (n k : ℕ) (xs : List A) → n ≤ k → take n (changed_at f k xs) ≡ take n xs
take-changed_past f zero k xs le = refl
take-changed_past f (suc n) k [] le = refl
take-changed_past f (suc n) zero (x ∷ xs) le = absurd (omega arith)
take-changed_past f (suc n) (suc k) (x ∷ xs) le = ap (λ l. x ∷ l) (take-changed_past f n k xs (omega arith))

pub each-changed : {A : Type 0} (f : ℕ → A → A) (g : A → A) (k m : ℕ) (xs : List A) → ((i : ℕ) (x : A) → f i (g x) ≡ g (f i x)) → each_from f m (changed_at g k xs) ≡ changed_at g k (each_from f m xs)
each-changed f g k m [] h = refl
each-changed f g zero m (x ∷ xs) h = ap (λ y. y ∷ each_from f (suc m) xs) (h m x)
each-changed f g (suc k) m (x ∷ xs) h = ap (λ l. f m x ∷ l) (each-changed f g k (suc m) xs h)

-- ---- each member

pub length-each : {A B : Type 0} (f : ℕ → A → B) (m : ℕ) (xs : List A) → length (each_from f m xs) ≡ length xs
length-each f m [] = refl
length-each f m (x ∷ xs) = ap suc (length-each f (suc m) xs)

pub get-each : {A B : Type 0} (f : ℕ → A → B) (m k : ℕ) (xs : List A) → slice_get (each_from f m xs) k ≡ option_map (f (m + k)) (slice_get xs k)
get-each f m k [] = refl
get-each f m zero (x ∷ xs) = ap (λ i. Some (f i x)) (let e : m ≡ m + 0 = omega arith in e)
get-each f m (suc k) (x ∷ xs) = get-each f (suc m) k xs ∙ ap (λ i. option_map (f i) (slice_get xs k)) (let e : suc m + k ≡ m + suc k = omega arith in e)

pub each-same : {A : Type 0} (f : ℕ → A → A) (m : ℕ) (xs : List A) → ((i : ℕ) (x : A) → m ≤ i → i < m + length xs → f i x ≡ x) → each_from f m xs ≡ xs
each-same f m [] h = refl
each-same f m (x ∷ xs) h =
    ap (λ y. y ∷ each_from f (suc m) xs) (h m x (omega arith) (omega arith))
    ∙ ap (λ l. x ∷ l) (each-same f (suc m) xs (λ i y a b. h i y (omega arith) (omega arith)))

pub each-swap : {A : Type 0} (f g : ℕ → A → A) (m : ℕ) (xs : List A) → ((i : ℕ) (x : A) → f i (g i x) ≡ g i (f i x)) → each_from f m (each_from g m xs) ≡ each_from g m (each_from f m xs)
each-swap f g m [] h = refl
each-swap f g m (x ∷ xs) h = ap (λ y. y ∷ each_from f (suc m) (each_from g (suc m) xs)) (h m x) ∙ ap (λ l. g m (f m x) ∷ l) (each-swap f g (suc m) xs h)

pub each-append : {A B : Type 0} (f : ℕ → A → B) (m : ℕ) (xs : List A) (y : A) → each_from f m (xs ++ y ∷ []) ≡ each_from f m xs ++ f (m + length xs) y ∷ []
each-append f m [] y = ap (λ i. f i y ∷ []) (let e : m ≡ m + 0 = omega arith in e)
each-append f m (x ∷ xs) y = ap (λ l. f m x ∷ l) (each-append f (suc m) xs y ∙ ap (λ i. each_from f (suc m) xs ++ f i y ∷ []) (let e : suc m + length xs ≡ m + suc (length xs) = omega arith in e))

-- ---- one member set

pub set-swap : {A : Type 0} (xs : List A) (i j : ℕ) (a b : A) → i ≢ j → set (set xs i a) j b ≡ set (set xs j b) i a
set-swap [] i j a b h = refl
set-swap (x ∷ xs) zero zero a b h = absurd (h refl)
set-swap (x ∷ xs) zero (suc j) a b h = refl
set-swap (x ∷ xs) (suc i) zero a b h = refl
set-swap (x ∷ xs) (suc i) (suc j) a b h = ap (λ l. x ∷ l) (set-swap xs i j a b (other_suc h))

pub get-set_other : {A : Type 0} (xs : List A) (i j : ℕ) (a : A) → j ≢ i → slice_get (set xs i a) j ≡ slice_get xs j
get-set_other [] i j a h = refl
get-set_other (x ∷ xs) zero zero a h = absurd (h refl)
get-set_other (x ∷ xs) zero (suc j) a h = refl
get-set_other (x ∷ xs) (suc i) zero a h = refl
get-set_other (x ∷ xs) (suc i) (suc j) a h = get-set_other xs i j a (other_suc h)

pub set_is : {A : Type 0} (xs : List A) (i : ℕ) (a b : A) → slice_get (set xs i a) i ≡ Some b → a ≡ b
set_is [] i a b g = absurd cc
set_is (x ∷ xs) zero a b g = some_is g
set_is (x ∷ xs) (suc i) a b g = set_is xs i a b g

pub get-set : {A : Type 0} (xs : List A) (i : ℕ) (a : A) → i < length xs → slice_get (set xs i a) i ≡ Some a
get-set [] i a lt = absurd (omega arith)
get-set (x ∷ xs) zero a lt = refl
get-set (x ∷ xs) (suc i) a lt = get-set xs i a (omega arith)

-- what is there already is set
pub set-same : {A : Type 0} (xs : List A) (i : ℕ) (a : A) → slice_get xs i ≡ Some a → set xs i a ≡ xs
set-same [] i a g = refl
set-same (x ∷ xs) zero a g = ap (λ y. y ∷ xs) (sym (some_is g))
set-same (x ∷ xs) (suc i) a g = ap (λ l. x ∷ l) (set-same xs i a g)

-- ---- one member added

pub get-append : {A : Type 0} (xs ys : List A) (k : ℕ) → k < length xs → slice_get (xs ++ ys) k ≡ slice_get xs k
get-append [] ys k lt = absurd (omega arith)
get-append (x ∷ xs) ys zero lt = refl
get-append (x ∷ xs) ys (suc k) lt = get-append xs ys k (omega arith)

pub get-take : {A : Type 0} (xs : List A) (n k : ℕ) → k < n → slice_get (take n xs) k ≡ slice_get xs k
get-take xs zero k lt = absurd (omega arith)
get-take [] (suc n) k lt = refl
get-take (x ∷ xs) (suc n) zero lt = refl
get-take (x ∷ xs) (suc n) (suc k) lt = get-take xs n k (omega arith)

pub get-of_take : {A : Type 0} (xs : List A) (n k : ℕ) (x : A) → slice_get (take n xs) k ≡ Some x → slice_get xs k ≡ Some x
get-of_take xs zero k x g = absurd cc
get-of_take [] (suc n) k x g = g
get-of_take (y ∷ xs) (suc n) zero x g = g
get-of_take (y ∷ xs) (suc n) (suc k) x g = get-of_take xs n k x g

-- ---- tests

pub or_left : (a b : Bool) → (a || b) ≡ false → a ≡ false
or_left false b h = refl
or_left true b h = h

pub or_right : (a b : Bool) → (a || b) ≡ false → b ≡ false
or_right false b h = h
or_right true b h = absurd cc

pub or_false : (a b : Bool) → a ≡ false → b ≡ false → (a || b) ≡ false
or_false a b p q = ap (λ t. t || b) p ∙ q

pub and_left : (a b : Bool) → (a && b) ≡ true → a ≡ true
and_left true b h = refl
and_left false b h = h

pub and_right : (a b : Bool) → (a && b) ≡ true → b ≡ true
and_right true b h = h
and_right false b h = absurd cc

pub and_true : (a b : Bool) → a ≡ true → b ≡ true → (a && b) ≡ true
and_true a b p q = ap (λ t. t && b) p ∙ q

pub no_left : (a b : Bool) → a ≡ false → (a && b) ≡ false
no_left a b h = ap (λ t. t && b) h

pub no_right : (a b : Bool) → b ≡ false → (a && b) ≡ false
no_right true b h = h
no_right false b h = refl

pub or_true : (a b : Bool) → b ≡ true → (a || b) ≡ true
or_true true b h = refl
or_true false b h = h

pub or_rest : (a b : Bool) → a ≡ false → (a || b) ≡ true → b ≡ true
or_rest a b e h = ap (λ t. t || b) (sym e) ∙ h

pub or_start : (a b : Bool) → b ≡ false → (a || b) ≡ true → a ≡ true
or_start true b e h = refl
or_start false b e h = sym e ∙ h

pub not_true : (a : Bool) → not a ≡ true → a ≡ false
not_true true h = absurd cc
not_true false h = refl

pub any-at : {A : Type 0} (p : A → Bool) (xs : List A) (k : ℕ) (x : A) → list_any p xs ≡ false → slice_get xs k ≡ Some x → p x ≡ false
any-at p [] k x h g = absurd cc
any-at p (y ∷ ys) zero x h g = subst (λ z. p z ≡ false) (some_is g) (or_left (p y) (list_any p ys) h)
any-at p (y ∷ ys) (suc k) x h g = any-at p ys k x (or_right (p y) (list_any p ys) h) g
