-- Lists whose members are changed in their places.
use Rattle.std.proofs.Common.{◌≡◌, ℕ, zero, suc, ◌+◌, List, [], ◌∷◌, ◌++◌, length, take, drop, Some, None, refl, ap, ◌∙◌, subst, arith}
use Rattle.std.specs.Prelude.{All, AllPairs, slice_get, option_map}
use Rattle.std.specs.List.{range_with_len}
use Rattle.std.proofs.lemmas.Option.{slice_get_within, get_or_from_slice_get}
use Rattle.std.proofs.lemmas.List.Elements.{All-head, All-tail, All-cons}
use Rattle.sy_onecopy.specs.Each.{changed_at}
use Rattle.sy_needs.specs.Each.{each_from}

pub length-each_from : {A B : Type 0} (f : ℕ → A → B) (k : ℕ) (xs : List A) → length (each_from f k xs) ≡ length xs
length-each_from f k [] = refl
length-each_from f k (x ∷ xs) = ap suc (length-each_from f (suc k) xs)

pub length-changed_at : {A : Type 0} (f : A → A) (k : ℕ) (xs : List A) → length (changed_at f k xs) ≡ length xs
length-changed_at f k [] = refl
length-changed_at f zero (x ∷ xs) = refl
length-changed_at f (suc k) (x ∷ xs) = ap suc (length-changed_at f k xs)

pub slice_get-each_from : {A B : Type 0} (f : ℕ → A → B) (k : ℕ) (xs : List A) (i : ℕ) → slice_get (each_from f k xs) i ≡ option_map (f (k + i)) (slice_get xs i)
slice_get-each_from f k [] i = refl
slice_get-each_from f k (x ∷ xs) zero = ap (λ j. Some (f j x)) (let e : k ≡ k + 0 = omega arith in e)
slice_get-each_from f k (x ∷ xs) (suc i) =
    slice_get-each_from f (suc k) xs i ∙ ap (λ j. option_map (f j) (slice_get xs i)) (let e : suc k + i ≡ k + suc i = omega arith in e)

pub slice_get-drop : {A : Type 0} (k : ℕ) (xs : List A) (i : ℕ) → slice_get (drop k xs) i ≡ slice_get xs (k + i)
slice_get-drop zero xs i = ap (slice_get xs) (let e : i ≡ 0 + i = omega arith in e)
slice_get-drop (suc k) [] i = refl
slice_get-drop (suc k) (x ∷ xs) i = slice_get-drop k xs i ∙ ap (slice_get (x ∷ xs)) (let e : suc (k + i) ≡ suc k + i = omega arith in e)

pub some_by_take : {A : Type 0} (n : ℕ) (xs : List A) (i : ℕ) (y : A) → slice_get (take n xs) i ≡ Some y → slice_get xs i ≡ Some y
some_by_take zero xs i y e = let z : None ≡ Some y = e in cc
some_by_take (suc n) [] i y e = e
some_by_take (suc n) (x ∷ xs) zero y e = e
some_by_take (suc n) (x ∷ xs) (suc i) y e = some_by_take n xs i y e

pub slice_get-push : {A : Type 0} (xs ys : List A) (k : ℕ) (x : A) → slice_get xs k ≡ Some x → slice_get (xs ++ ys) k ≡ Some x
slice_get-push [] ys k x e = let z : None ≡ Some x = e in cc
slice_get-push (y ∷ xs) ys zero x e = e
slice_get-push (y ∷ xs) ys (suc k) x e = slice_get-push xs ys k x e

pub All-at : {A : Type 0} (P : A → Type 0) (xs : List A) (k : ℕ) (x : A) → All P xs → slice_get xs k ≡ Some x → P x
All-at P xs k x h e = subst P (get_or_from_slice_get xs k x x e) (h k x (slice_get_within xs k x e))

pub All-changed_at : {A : Type 0} (P : A → Type 0) (f : A → A) → ((x : A) → P x → P (f x)) → (k : ℕ) (xs : List A) → All P xs → All P (changed_at f k xs)
All-changed_at P f g k [] h = h
All-changed_at P f g zero (x ∷ xs) h = All-cons P (f x) xs (g x (All-head P x xs h)) (All-tail P x xs h)
All-changed_at P f g (suc k) (x ∷ xs) h =
    All-cons P x (changed_at f k xs) (All-head P x xs h) (All-changed_at P f g k xs (All-tail P x xs h))

pub AllPairs-cons : {A : Type 0} (R : A → A → Type 0) (x : A) (xs : List A) → All (R x) xs → AllPairs R xs → AllPairs R (x ∷ xs)
AllPairs-cons R x xs h p zero zero d lt within = absurd (omega (arith, lt))
AllPairs-cons R x xs h p (suc i) zero d lt within = absurd (omega (arith, lt))
AllPairs-cons R x xs h p zero (suc j) d lt within = h j d (omega (arith, within))
AllPairs-cons R x xs h p (suc i) (suc j) d lt within = p i j d (omega (arith, lt)) (omega (arith, within))

-- a relation that follows from what holds of each
pub all_pairs_by : {A : Type 0} (Q : A → Type 0) (R : A → A → Type 0) → ((x y : A) → Q x → Q y → R x y) → (xs : List A) → All Q xs → AllPairs R xs
all_pairs_by Q R r xs h i j d lt within = r _ _ (h i d (omega (arith, lt, within))) (h j d within)

pub range_push : (a n : ℕ) → range_with_len a (suc n) ≡ range_with_len a n ++ (a + n) ∷ []
range_push a zero = ap (λ k. k ∷ []) (let e : a ≡ a + 0 = omega arith in e)
range_push a (suc n) =
    ap (λ l. a ∷ l) (range_push (a + 1) n ∙ ap (λ k. range_with_len (a + 1) n ++ k ∷ []) (let e : (a + 1) + n ≡ a + suc n = omega arith in e))
