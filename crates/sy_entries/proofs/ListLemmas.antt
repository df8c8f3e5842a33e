-- A function of place and member over a list.
use Rattle.std.proofs.Common.{◌≡◌, ℕ, suc, ◌+◌, ◌<◌, List, [], ◌∷◌, ◌++◌, length, take, arith, ap, ◌∙◌, sym, get_or, add-zero, length-take}
use Rattle.std.proofs.lemmas.List.{take_more}
use Rattle.sy_needs.specs.Each.{each_from}

-- one more member
pub each_from-append : {A B : Type 0} (f : ℕ → A → B) (k : ℕ) (xs : List A) (x : A) → each_from f k (xs ++ x ∷ []) ≡ each_from f k xs ++ f (k + length xs) x ∷ []
each_from-append f k [] x = ap (λ n. f n x ∷ []) (sym (add-zero k))
each_from-append f k (y ∷ ys) x =
    ap (λ l. f k y ∷ l) (each_from-append f (suc k) ys x ∙ ap (λ n. each_from f (suc k) ys ++ f n x ∷ []) (let e : suc k + length ys ≡ k + suc (length ys) = omega arith in e))

-- a loop's step
pub each_from-take : {A B : Type 0} (f : ℕ → A → B) (k : ℕ) (xs : List A) (i : ℕ) (d : A) → i < length xs → each_from f k (take (i + 1) xs) ≡ each_from f k (take i xs) ++ f (k + i) (get_or xs i d) ∷ []
each_from-take f k xs i d lt =
    let n : length (take i xs) ≡ i = simp length-take (omega arith) in
    ap (each_from f k) (take_more xs i d lt) ∙ each_from-append f k (take i xs) (get_or xs i d) ∙ ap (λ m. each_from f k (take i xs) ++ f (k + m) (get_or xs i d) ∷ []) n

-- the step as a loop has it: a new list is the old one with the function's value at the next member
pub each_from-step : {A B : Type 0} (f : ℕ → A → B) (k : ℕ) (xs : List A) (i at : ℕ) (x : A) (y : B) (out new : List B) → i < length xs → x ≡ get_or xs i x → at ≡ k + i → y ≡ f at x → out ≡ each_from f k (take i xs) → new ≡ out ++ y ∷ [] → new ≡ each_from f k (take (i + 1) xs)
each_from-step f k xs i at x y out new lt ex ea ey eo en =
    en ∙ ap (λ l. l ++ y ∷ []) eo ∙ ap (λ z. each_from f k (take i xs) ++ z ∷ []) (ey ∙ ap (λ n. f n x) ea ∙ ap (f (k + i)) ex)
    ∙ sym (each_from-take f k xs i x lt)
