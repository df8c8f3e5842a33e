-- A literal of 2^64 or more stays one with more digits, and no kind holds it.
use Rattle.std.proofs.Common.{◌≡◌, refl, ℕ, ◌+◌, ◌*◌, ◌^◌, ◌≤◌, false, ◌||◌, List, [], ◌∷◌, fold, pos, None, arith}
use Rattle.std.specs.Prelude.{find}
use Rattle.std.proofs.Math.Nat.{le-mul_of_pos_right}
use Rattle.sy_num.specs.declared.Kind.{Kind}
use Rattle.sy_num.specs.Kinds.{is_in_range}
use Rattle.sy_rules.specs.Literals.{digit, is_u, is_l, without_suffix}

one_more : (base n d : ℕ) → 1 ≤ base → n ≤ n * base + d
one_more base n d h = let k : n ≤ n * base = le-mul_of_pos_right n h in omega arith

grows : (base n : ℕ) (bs : List ℕ) → 1 ≤ base → n ≤ fold (λ n b. n * base + digit b) n bs
grows base n [] h = omega arith
grows base n (b ∷ bs) h =
    let first : n ≤ n * base + digit b = one_more base n (digit b) h in
    let more : n * base + digit b ≤ fold (λ n b. n * base + digit b) (n * base + digit b) bs = grows base (n * base + digit b) bs h in
    omega (arith, first, more)

at_least : (m n k : ℕ) → m ≤ n → n ≤ k → m ≤ k
at_least m n k h e = omega arith

pub too_many : (base n b : ℕ) (bs rest : List ℕ) → 1 ≤ base → bs ≡ b ∷ rest → (is_u b || is_l b) ≡ false
    → 2 ^ 64 ≤ n * base + digit b → 2 ^ 64 ≤ fold (λ n b. n * base + digit b) n (without_suffix bs)
too_many base n b bs rest h e s k =
    rw (e, s) (at_least (2 ^ 64) (n * base + digit b) (fold (λ n b. n * base + digit b) (n * base + digit b) (without_suffix rest)) k (grows base (n * base + digit b) (without_suffix rest) h))

too_wide : (k : Kind) (n : ℕ) → 2 ^ 64 ≤ n → is_in_range k (pos n) ≡ false
too_wide _ n h = grind arith

pub held_by_none : (ks : List Kind) (n : ℕ) → 2 ^ 64 ≤ n → find (λ k. is_in_range k (pos n)) ks ≡ None
held_by_none [] n h = refl
held_by_none (k ∷ ks) n h = rw (too_wide k n h) (held_by_none ks n h)
