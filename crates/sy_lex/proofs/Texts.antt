-- Fronts of texts, and runs of bytes that pass a test.
use Rattle.std.proofs.Common.{◌≡◌, ℕ, suc, ◌+◌, ◌<◌, ◌≤◌, Bool, true, false, cond, List, [], ◌∷◌, ◌++◌, length, take, drop, ◌⊎◌, inl, inr, ⊎_elim, refl, sym, ap, ◌∙◌, arith, length-append}
use Rattle.std.specs.List.{list_all, prefix_len}
use Rattle.sy_lex.specs.Tokens.{starts}
use Rattle.sy_lex.proofs.Tables.{both, clash}

pub one_plus : (n : ℕ) → 1 + n ≡ suc n
one_plus n = omega arith

-- ---- two fronts of one text

pub front_cases : (a b x y : List ℕ) → a ++ x ≡ b ++ y → (length a < length b) ⊎ (length b < length a) ⊎ ((a ≡ b) × (x ≡ y))
front_cases [] [] x y h = inr (inr (refl, h))
front_cases [] (b ∷ bs) x y h = inl (omega arith)
front_cases (a ∷ aa) [] x y h = inr (inl (omega arith))
front_cases (a ∷ aa) (b ∷ bs) x y h =
    let head : a ≡ b = cc in
    let tail : aa ++ x ≡ bs ++ y = cc in
    ⊎_elim (λ p. inl (omega arith)) (⊎_elim (λ q. inr (inl (omega arith))) (λ r. let e = r.0 in inr (inr (let same : a ∷ aa ≡ b ∷ bs = cc in same, r.1)))) (front_cases aa bs x y tail)

-- the fronts of two steps that leave the same bytes are one
pub same_front : (f g x y : List ℕ) → f ++ x ≡ g ++ y → x ≡ y → (f ≡ g) × (x ≡ y)
same_front f g x y h e =
    ⊎_elim (λ lt. absurd (omega (arith, ap length h, ap length e, length-append f x, length-append g y)))
    (⊎_elim (λ lt. absurd (omega (arith, ap length h, ap length e, length-append f x, length-append g y))) (λ s. s))
    (front_cases f g x y h)

pub take_front : (u x l : List ℕ) → u ++ x ≡ l → u ≡ take (length u) l
take_front [] x l h = refl
take_front (b ∷ u) x [] h = absurd cc
take_front (b ∷ u) x (d ∷ l) h =
    let head : b ≡ d = cc in
    let tail : u ++ x ≡ l = cc in
    let inner = take_front u x l tail in
    cc

pub within : (u x l : List ℕ) → u ++ x ≡ l → length u ≤ length l
within u x l h = omega (arith, ap length h, length-append u x)

-- ---- runs

all_step : (p : ℕ → Bool) (b : ℕ) (bs : List ℕ) (n : ℕ) (v : Bool) → p b ≡ v → list_all p (take n bs) ≡ true → list_all p (take (cond v (1 + n) 0) (b ∷ bs)) ≡ true
all_step p b bs n true is h = rw (one_plus n, is) h
all_step p b bs n false is h = refl

pub run_all : (p : ℕ → Bool) (l : List ℕ) → list_all p (take (prefix_len p l) l) ≡ true
run_all p [] = refl
run_all p (b ∷ bs) = all_step p b bs (prefix_len p bs) (p b) refl (run_all p bs)

stop_step : (p : ℕ → Bool) (b : ℕ) (bs : List ℕ) (n : ℕ) (v : Bool) → p b ≡ v → starts p (drop n bs) ≡ false → starts p (drop (cond v (1 + n) 0) (b ∷ bs)) ≡ false
stop_step p b bs n true is h = rw (one_plus n) h
stop_step p b bs n false is h = is

pub run_stops : (p : ℕ → Bool) (l : List ℕ) → starts p (drop (prefix_len p l) l) ≡ false
run_stops p [] = refl
run_stops p (b ∷ bs) = stop_step p b bs (prefix_len p bs) (p b) refl (run_stops p bs)

-- a front that passes is no longer than the run
pub run_most : (p : ℕ → Bool) (u x l : List ℕ) → u ++ x ≡ l → list_all p u ≡ true → length u ≤ prefix_len p l
run_most p [] x l h a = omega arith
run_most p (b ∷ u) x [] h a = absurd cc
run_most p (b ∷ u) x (d ∷ l) h a =
    let head : b ≡ d = cc in
    let tail : u ++ x ≡ l = cc in
    let rest = both (p b) (list_all p u) a in
    let test : p d ≡ true = ap p (sym head) ∙ rest.0 in
    let inner = run_most p u x l tail rest.1 in
    rw test (omega arith)

-- a front that passes, with what does not behind it, is the run
pub run_len : (p : ℕ → Bool) (u x : List ℕ) → list_all p u ≡ true → starts p x ≡ false → prefix_len p (u ++ x) ≡ length u
run_len p [] [] a s = refl
run_len p [] (d ∷ x) a s = rw s refl
run_len p (b ∷ u) x a s =
    let rest = both (p b) (list_all p u) a in
    let test = rest.0 in
    let inner = run_len p u x rest.1 s in
    rw test (omega arith)

pub run_same : (p : ℕ → Bool) (u v x y : List ℕ) → u ++ x ≡ v ++ y → list_all p u ≡ true → list_all p v ≡ true → starts p x ≡ false → starts p y ≡ false → x ≡ y
run_same p [] [] x y h a b c d = h
run_same p [] (k ∷ v) x y h a b c d = let t = both (p k) (list_all p v) b in absurd (clash (sym t.0 ∙ sym (ap (starts p) h) ∙ c))
run_same p (k ∷ u) [] x y h a b c d = let t = both (p k) (list_all p u) a in absurd (clash (sym t.0 ∙ ap (starts p) h ∙ d))
run_same p (k ∷ u) (j ∷ v) x y h a b c d =
    let tail : u ++ x ≡ v ++ y = cc in
    run_same p u v x y tail (both (p k) (list_all p u) a).1 (both (p j) (list_all p v) b).1 c d

pub drop_front : (u x : List ℕ) → drop (length u) (u ++ x) ≡ x
drop_front [] x = refl
drop_front (b ∷ u) x = drop_front u x

-- what passes one test passes a wider one
pub wider : (p q : ℕ → Bool) → ((b : ℕ) → p b ≡ true → q b ≡ true) → (l : List ℕ) → list_all p l ≡ true → list_all q l ≡ true
wider p q w [] h = refl
wider p q w (b ∷ l) h =
    let t = both (p b) (list_all p l) h in
    let head = w b t.0 in
    rw head (wider p q w l t.1)
