-- Functions of place and member over a list, one after another and at one place.
use Rattle.std.proofs.Common.{◌≡◌, ℕ, zero, suc, ◌+◌, ◌<◌, ◌≤◌, List, [], ◌∷◌, length, get_or, set, replicate, refl, sym, ap, ◌∙◌, arith}
use Rattle.sy_needs.specs.Each.{each_from}

-- two functions that agree within the list
pub each_from-agree : {A B : Type 0} (f g : ℕ → A → B) (k : ℕ) (xs : List A) → ((i : ℕ) (x : A) → k ≤ i → i < k + length xs → f i x ≡ g i x) → each_from f k xs ≡ each_from g k xs
each_from-agree f g k [] h = refl
each_from-agree f g k (x ∷ xs) h =
    ap (λ y. y ∷ each_from f (suc k) xs) (h k x (omega arith) (omega arith))
    ∙ ap (λ l. g k x ∷ l) (each_from-agree f g (suc k) xs (λ i y a b. h i y (omega arith) (omega arith)))

-- a function that keeps each member within the list
pub each_from-kept : {A : Type 0} (f : ℕ → A → A) (k : ℕ) (xs : List A) → ((i : ℕ) (x : A) → k ≤ i → i < k + length xs → f i x ≡ x) → each_from f k xs ≡ xs
each_from-kept f k [] h = refl
each_from-kept f k (x ∷ xs) h =
    ap (λ y. y ∷ each_from f (suc k) xs) (h k x (omega arith) (omega arith))
    ∙ ap (λ l. x ∷ l) (each_from-kept f (suc k) xs (λ i y a b. h i y (omega arith) (omega arith)))

-- one function after another
pub each_from-twice : {A : Type 0} (f g h : ℕ → A → A) → ((i : ℕ) (x : A) → g i (f i x) ≡ h i x) → (k : ℕ) (xs : List A) → each_from g k (each_from f k xs) ≡ each_from h k xs
each_from-twice f g h e k [] = refl
each_from-twice f g h e k (x ∷ xs) =
    ap (λ y. y ∷ each_from g (suc k) (each_from f (suc k) xs)) (e k x) ∙ ap (λ l. h k x ∷ l) (each_from-twice f g h e (suc k) xs)

-- a function that changes the member at one place alone
pub each_from-set : {A : Type 0} (f : ℕ → A → A) (y : A) (k j : ℕ) (xs : List A) → ((x : A) → f (k + j) x ≡ y) → ((i : ℕ) (x : A) → (i ≡ k + j → ⊥) → f i x ≡ x) → set xs j y ≡ each_from f k xs
each_from-set f y k j [] a b = refl
each_from-set f y k zero (x ∷ xs) a b =
    let same : k + 0 ≡ k = omega arith in
    let head : f k x ≡ y = ap (λ n. f n x) (sym same) ∙ a x in
    ap (λ z. z ∷ xs) (sym head) ∙ ap (λ l. f k x ∷ l) (sym (each_from-kept f (suc k) xs (λ i z c d. b i z (λ e. omega arith))))
each_from-set f y k (suc j) (x ∷ xs) a b =
    let same : suc k + j ≡ k + suc j = omega arith in
    let head : f k x ≡ x = b k x (λ e. omega arith) in
    let rest = each_from-set f y (suc k) j xs (λ z. ap (λ n. f n z) same ∙ a z) (λ i z c. b i z (λ e. c (e ∙ sym same))) in
    ap (λ l. x ∷ l) rest ∙ ap (λ z. z ∷ each_from f (suc k) xs) (sym head)

pub length-each_from : {A B : Type 0} (f : ℕ → A → B) (k : ℕ) (xs : List A) → length (each_from f k xs) ≡ length xs
length-each_from f k [] = refl
length-each_from f k (x ∷ xs) = ap suc (length-each_from f (suc k) xs)

-- a function that has one answer everywhere, of a list of this length
pub each_from-all : {A : Type 0} (f : ℕ → A → A) (y : A) (k : ℕ) (xs : List A) → ((i : ℕ) (x : A) → k ≤ i → i < k + length xs → f i x ≡ y) → each_from f k xs ≡ replicate (length xs) y
each_from-all f y k [] h = refl
each_from-all f y k (x ∷ xs) h =
    ap (λ z. z ∷ each_from f (suc k) xs) (h k x (omega arith) (omega arith))
    ∙ ap (λ l. y ∷ l) (each_from-all f y (suc k) xs (λ i z a b. h i z (omega arith) (omega arith)))

-- two functions that agree at the only member of a list
pub each_from-replicate : {A B : Type 0} (f g : ℕ → A → B) (y : A) → ((i : ℕ) → f i y ≡ g i y) → (k n : ℕ) → each_from f k (replicate n y) ≡ each_from g k (replicate n y)
each_from-replicate f g y e k zero = refl
each_from-replicate f g y e k (suc n) =
    ap (λ z. z ∷ each_from f (suc k) (replicate n y)) (e k) ∙ ap (λ l. g k y ∷ l) (each_from-replicate f g y e (suc k) n)

-- a function that changes the member at one place alone, by what stands there
pub each_from-one : {A : Type 0} (f : ℕ → A → A) (k j : ℕ) (xs : List A) (was is : A) → j < length xs → was ≡ get_or xs j was → is ≡ f (k + j) was → ((i : ℕ) (x : A) → (i ≡ k + j → ⊥) → f i x ≡ x) → set xs j is ≡ each_from f k xs
each_from-one f k j [] was is h read e keeps = absurd (omega arith)
each_from-one f k zero (x ∷ xs) was is h read e keeps =
    let here : k + 0 ≡ k = omega arith in
    ap (λ z. z ∷ xs) (e ∙ ap (f (k + 0)) read ∙ ap (λ n. f n x) here)
    ∙ ap (λ l. f k x ∷ l) (sym (each_from-kept f (suc k) xs (λ i z a b. keeps i z (λ t. omega arith))))
each_from-one f k (suc j) (x ∷ xs) was is h read e keeps =
    let here : suc k + j ≡ k + suc j = omega arith in
    ap (λ l. x ∷ l) (each_from-one f (suc k) j xs was is (omega arith) read (e ∙ ap (λ n. f n was) (sym here)) (λ i z n. keeps i z (λ t. n (t ∙ sym here))))
    ∙ ap (λ z. z ∷ each_from f (suc k) xs) (sym (keeps k x (λ t. omega arith)))
