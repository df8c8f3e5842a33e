-- How often a list has a number, after a push and under a filter.
use Rattle.std.proofs.Common.{◌≡◌, ◌≢◌, ◌⊎◌, inl, inr, ℕ, zero, suc, ◌+◌, ◌≤◌, get_or, Bool, true, false, cond, List, [], ◌∷◌, ◌++◌, refl, sym, ap, ◌∙◌, arith, zero-add}
use Rattle.std.specs.Prelude.{if◌then◌else◌, ◌==◌}
use Rattle.std.specs.List.{filter, remove}
use Rattle.std.specs.Ordering.{nat_cmp}
use Rattle.std.specs.declared.cmp.Ordering.TheVariants.{Equal}
use Rattle.std.proofs.lemmas.Map.Lookups.{exact_unsigned}
use Rattle.std.proofs.lemmas.Bool.{eqb-true, eq-eqb}
use Rattle.sy_index.specs.Lists.{one_if, count, Has}

pub count-append : (xs ys : List ℕ) (n : ℕ) → count (xs ++ ys) n ≡ count xs n + count ys n
count-append [] ys n = sym (zero-add (count ys n))
count-append (x ∷ xs) ys n = omega (arith, count-append xs ys n)

pub one_at : (n : ℕ) → one_if (n == n) ≡ 1
one_at n = ap one_if (eq-eqb n n refl)

pub one_off : (m n : ℕ) → m ≢ n → one_if (m == n) ≡ 0
one_off m n apart = go (m == n) refl
  where
    go : (b : Bool) → (m == n) ≡ b → one_if b ≡ 0
    go true e = absurd (apart (eqb-true m n e))
    go false e = refl

count-removed : (xs : List ℕ) (i n m : ℕ) → get_or xs i n ≡ n → n ≢ m → count (remove xs i) m ≡ count xs m
count-removed [] zero n m e apart = refl
count-removed [] (suc i) n m e apart = refl
count-removed (x ∷ xs) zero n m e apart = let off : one_if (x == m) ≡ 0 = rw e (one_off n m apart) in omega arith
count-removed (x ∷ xs) (suc i) n m e apart = ap (λ (k : ℕ). one_if (x == m) + k) (count-removed xs i n m e apart)

-- a number apart from the one that is removed stays
pub has_removed : (xs ys : List ℕ) (i n m : ℕ) → nat_cmp (get_or xs i n) n ≡ Equal → ys ≡ remove xs i → m ≢ n → Has xs m → Has ys m
has_removed xs ys i n m at e apart h =
    let here : get_or xs i n ≡ n = exact_unsigned (get_or xs i n) n at in
    let all : count (remove xs i) m ≡ count xs m = count-removed xs i n m here (λ k. apart (sym k)) in
    rw e (omega arith)

pub has_pushed : (xs : List ℕ) (n : ℕ) → Has (xs ++ n ∷ []) n
has_pushed xs n =
    let one : one_if (n == n) ≡ 1 = one_at n in
    let all : count (xs ++ n ∷ []) n ≡ count xs n + (one_if (n == n) + 0) = count-append xs (n ∷ []) n in
    omega arith

pub has_kept : (xs : List ℕ) (m n : ℕ) → Has xs n → Has (xs ++ m ∷ []) n
has_kept xs m n h =
    let all : count (xs ++ m ∷ []) n ≡ count xs n + (one_if (m == n) + 0) = count-append xs (m ∷ []) n in
    omega arith

count_filtered : (p : ℕ → Bool) (x : ℕ) (xs : List ℕ) (n : ℕ) (s b : Bool) → (x == n) ≡ s → p x ≡ b → p n ≡ true → count xs n ≤ count (filter p xs) n → count (x ∷ xs) n ≤ count (cond b (x ∷ filter p xs) (filter p xs)) n
count_filtered p x xs n s true same passes pn below = omega arith
count_filtered p x xs n false false same passes pn below = rw same (omega arith)
count_filtered p x xs n true false same passes pn below = let here : p x ≡ true = ap p (eqb-true x n same) ∙ pn in absurd cc

pub count_kept : (p : ℕ → Bool) (xs : List ℕ) (n : ℕ) → p n ≡ true → count xs n ≤ count (filter p xs) n
count_kept p [] n pn = omega arith
count_kept p (x ∷ xs) n pn = count_filtered p x xs n (x == n) (p x) refl refl pn (count_kept p xs n pn)

pub has_filtered : (p : ℕ → Bool) (xs : List ℕ) (n : ℕ) → p n ≡ true → Has xs n → Has (filter p xs) n
has_filtered p xs n pn h = let le = count_kept p xs n pn in omega arith

-- each number that the filter keeps passes
filtered_step : (p : ℕ → Bool) (x : ℕ) (xs : List ℕ) (n : ℕ) (s b : Bool) → (x == n) ≡ s → p x ≡ b → (Has (filter p xs) n → p n ≡ true) → Has (cond b (x ∷ filter p xs) (filter p xs)) n → p n ≡ true
filtered_step p x xs n s false same passes rest h = rest h
filtered_step p x xs n true true same passes rest h = sym (ap p (eqb-true x n same)) ∙ passes
filtered_step p x xs n false true same passes rest h = rest (let zero_here : one_if (x == n) ≡ 0 = ap one_if same in omega arith)

pub filtered_passes : (p : ℕ → Bool) (xs : List ℕ) (n : ℕ) → Has (filter p xs) n → p n ≡ true
filtered_passes p [] n h = absurd (omega arith)
filtered_passes p (x ∷ xs) n h = filtered_step p x xs n (x == n) (p x) refl refl (filtered_passes p xs n) h

chosen : (f : ℕ → List ℕ) (key k : ℕ) (here new : List ℕ) (m : ℕ) (b : Bool) → (key == k) ≡ b → new ≡ (if b then here else f k) → (Has (f key) m → Has here m) → Has (f k) m → Has new m
chosen f key k here new m true same e keeps h = rw e (keeps (let at : key ≡ k = eqb-true key k same in rw at h))
chosen f key k here new m false same e keeps h = rw e h

-- a list that is changed at one key alone keeps a number that it keeps there
pub kept_at : (f : ℕ → List ℕ) (key k : ℕ) (here new : List ℕ) (m : ℕ) → new ≡ (if key == k then here else f k) → (Has (f key) m → Has here m) → Has (f k) m → Has new m
kept_at f key k here new m e keeps h = chosen f key k here new m (key == k) refl e keeps h

filtered_chosen : (f : ℕ → List ℕ) (key k : ℕ) (p : ℕ → Bool) (new : List ℕ) (m : ℕ) (G : Type 0) (b pm : Bool) → (key == k) ≡ b → p m ≡ pm → new ≡ (if b then filter p (f key) else f k) → (p m ≡ false → key ≡ k → G) → Has (f k) m → Has new m ⊎ G
filtered_chosen f key k p new m G false pm at passes e gone h = inl (rw e h)
filtered_chosen f key k p new m G true true at passes e gone h = inl (rw e (has_filtered p (f key) m passes (let same : key ≡ k = eqb-true key k at in rw same h)))
filtered_chosen f key k p new m G true false at passes e gone h = inr (gone passes (eqb-true key k at))

-- a list that is filtered at one key keeps a number, or the number doesn't pass there
pub filtered_at : (f : ℕ → List ℕ) (key k : ℕ) (p : ℕ → Bool) (new : List ℕ) (m : ℕ) (G : Type 0) → new ≡ (if key == k then filter p (f key) else f k) → (p m ≡ false → key ≡ k → G) → Has (f k) m → Has new m ⊎ G
filtered_at f key k p new m G e gone h = filtered_chosen f key k p new m G (key == k) (p m) refl refl e gone h
