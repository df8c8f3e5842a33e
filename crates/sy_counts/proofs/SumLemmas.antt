-- Sums and counts over a list of which one member changes or to which one is added.
use Rattle.std.proofs.Common.{◌≡◌, ℕ, zero, suc, ◌+◌, List, [], ◌∷◌, ◌++◌, Bool, true, false, Some, refl, sym, ap, ◌∙◌, subst, arith}
use Rattle.std.specs.Prelude.{slice_get, not, ◌&&◌, ◌||◌, ◌==◌, nat_lt, if◌then◌else◌, sum_by, count_by}
use Rattle.std.specs.List.{list_any, list_all}
use Rattle.std.proofs.lemmas.Bool.Decides.{nat_tests}
use Rattle.std.proofs.lemmas.List.Sums.{sum_by-cons}
use Rattle.sy_onecopy.specs.Each.{changed_at}
use Rattle.sy_settling.proofs.ListLemmas.{some_is}
use Rattle.sy_counts.specs.Counts.{one_if}

pub sum_changed : {X : Type 0} (f : X → ℕ) (g : X → X) (k : ℕ) (xs : List X) (x : X) → slice_get xs k ≡ Some x → sum_by f (changed_at g k xs) + f x ≡ sum_by f xs + f (g x)
sum_changed f g k [] x e = absurd cc
sum_changed f g zero (y ∷ ys) x e =
    let a = sum_by-cons f (g y) ys in
    let b = sum_by-cons f y ys in
    subst (λ z. sum_by f (g y ∷ ys) + f z ≡ sum_by f (y ∷ ys) + f (g z)) (some_is e) (omega (arith, a, b))
sum_changed f g (suc k) (y ∷ ys) x e =
    let h = sum_changed f g k ys x e in
    let a = sum_by-cons f y (changed_at g k ys) in
    let b = sum_by-cons f y ys in
    omega (arith, a, b, h)

pub sum_kept : {X : Type 0} (f : X → ℕ) (g : X → X) → ((x : X) → f (g x) ≡ f x) → (k : ℕ) (xs : List X) → sum_by f (changed_at g k xs) ≡ sum_by f xs
sum_kept f g h k [] = refl
sum_kept f g h zero (y ∷ ys) = sum_by-cons f (g y) ys ∙ ap (λ n. n + sum_by f ys) (h y) ∙ sym (sum_by-cons f y ys)
sum_kept f g h (suc k) (y ∷ ys) = sum_by-cons f y (changed_at g k ys) ∙ ap (λ n. f y + n) (sum_kept f g h k ys) ∙ sym (sum_by-cons f y ys)

-- two tests that agree on the members count alike
pub count_same : {X : Type 0} (p q : X → Bool) (xs : List X) → ((k : ℕ) (x : X) → slice_get xs k ≡ Some x → p x ≡ q x) → count_by p xs ≡ count_by q xs
count_same p q [] h = refl
count_same p q (x ∷ xs) h =
    sum_by-cons (λ y. one_if (p y)) x xs
    ∙ ap (λ v. one_if v + count_by p xs) (h 0 x refl)
    ∙ ap (λ n. one_if (q x) + n) (count_same p q xs (λ k y g. h (suc k) y g))
    ∙ sym (sum_by-cons (λ y. one_if (q y)) x xs)

any_step : (v : Bool) (n : ℕ) → (v || nat_lt 0 n) ≡ nat_lt 0 (one_if v + n)
any_step true n = grind (arith, nat_tests)
any_step false n = ap (nat_lt 0) (let e : n ≡ 0 + n = omega arith in e)

-- something passes where the count is above 0
pub any_counts : {X : Type 0} (p : X → Bool) (xs : List X) → list_any p xs ≡ nat_lt 0 (count_by p xs)
any_counts p [] = refl
any_counts p (x ∷ xs) = ap (λ v. p x || v) (any_counts p xs) ∙ any_step (p x) (count_by p xs) ∙ ap (nat_lt 0) (sym (sum_by-cons (λ y. one_if (p y)) x xs))

all_step : (v : Bool) (n : ℕ) → (v && (n == 0)) ≡ (one_if (not v) + n == 0)
all_step true n = ap (λ i. i == 0) (let e : n ≡ 0 + n = omega arith in e)
all_step false n = grind (arith, nat_tests)

-- all pass where none are counted that don't
pub all_counts : {X : Type 0} (p : X → Bool) (xs : List X) → list_all p xs ≡ (count_by (λ x. not (p x)) xs == 0)
all_counts p [] = refl
all_counts p (x ∷ xs) = ap (λ v. p x && v) (all_counts p xs) ∙ all_step (p x) (count_by (λ y. not (p y)) xs) ∙ ap (λ n. n == 0) (sym (sum_by-cons (λ y. one_if (not (p y))) x xs))

pub not_one : (v : Bool) → one_if (not v) ≡ (if v then 0 else 1)
not_one true = refl
not_one false = refl

-- ---- whether any passes

or_assoc : (a b c : Bool) → (a || (b || c)) ≡ ((a || b) || c)
or_assoc true b c = refl
or_assoc false b c = refl

or_end : (a b : Bool) → (a || b) ≡ ((false || b) || a)
or_end true true = refl
or_end true false = refl
or_end false true = refl
or_end false false = refl

pub any_more : {X : Type 0} (p : X → Bool) (xs : List X) (x : X) → list_any p (xs ++ x ∷ []) ≡ (list_any p xs || p x)
any_more p [] x = or_end (p x) false
any_more p (y ∷ ys) x = ap (λ v. p y || v) (any_more p ys x) ∙ or_assoc (p y) (list_any p ys) (p x)

pub any_changed : {X : Type 0} (p : X → Bool) (g : X → X) (k : ℕ) (xs : List X) (x : X) → slice_get xs k ≡ Some x → p x ≡ false → list_any p (changed_at g k xs) ≡ (list_any p xs || p (g x))
any_changed p g k [] x e h = absurd cc
any_changed p g zero (y ∷ ys) x e h =
    or_end (p (g y)) (list_any p ys)
    ∙ ap (λ v. (v || list_any p ys) || p (g y)) (sym (ap p (some_is e) ∙ h))
    ∙ ap (λ z. (p y || list_any p ys) || p (g z)) (some_is e)
any_changed p g (suc k) (y ∷ ys) x e h = ap (λ v. p y || v) (any_changed p g k ys x e h) ∙ or_assoc (p y) (list_any p ys) (p (g x))
