-- What the code computes on numbers of 128 bits, as the definitions have it.
use Rattle.std.proofs.Common.{◌≡◌, refl, sym, ap, subst, ◌∙◌, ℕ, zero, suc, ◌+◌, ◌-◌, ◌*◌, ◌/◌, ◌%◌, ◌^◌, ◌<◌, ◌≤◌, ℤ, pos, negsuc, ◌+ℤ◌, ◌-ℤ◌, ◌*ℤ◌, neg_ℤ, ◌≤ℤ◌, bit_and, bit_or, bit_xor, to_z, of_z, FitsSigned, Bool, true, false, cond, Ok, Err, arith, unsigned_abs}
use Rattle.std.specs.Prelude.{int_div, int_rem, int_lt}
use Rattle.std.specs.Int.{w128, int_wrapping_mul, int_div_euclid, int_rem_euclid}
use Rattle.std.specs.Ordering.{int_eq}
use Rattle.std.specs.Int.Signed.{shr_z}
use Rattle.std.proofs.lemmas.Int.{ints, to_z-of_z, quot_is, quot-rem, fits_signed_from_abs, fits_signed_mul, int_wrap_fits, wrapping_mul_is}
use Rattle.std.proofs.lemmas.Nat.{and_mod, or_mod, xor_mod, and_le_l, or_lt, xor_lt, pow_pos, div-add-mod'}
use Rattle.std.proofs.lemmas.Bool.Decides.{Decides-int_eq}
use Rattle.std.proofs.Math.Nat.{div-le_self, mod-le}
use Rattle.sy_num.specs.declared.Kind.{Kind}
use Rattle.sy_num.specs.declared.Kind.TheVariants as kinds
use Rattle.sy_num.specs.declared.Undefined.TheVariants.{Overflow}
use Rattle.sy_num.specs.Kinds.{bits, is_signed, InRange, is_in_range}
use Rattle.sy_num.specs.Scalars.{Congruent, scalar, reduced, bits_of}
use Rattle.sy_num.specs.Operators.{represented, fitted, quotient, remainder, is_count, shifted_left, shifted_right}
use Rattle.sy_num.proofs.Residues.{Spans, spans, IsResidue, rem_is_residue, Congruent-trans, IsSmall, InRange-small, InRange-fits, kept, reduced-congruent, to_z-same, mod-same, low_bits_are}

pub sum_is :
    (k : Kind) (x y : ℤ) → InRange k x → InRange k y →
    to_z w128 (of_z w128 (to_z w128 (of_z w128 x) +ℤ to_z w128 (of_z w128 y))) ≡ x +ℤ y
sum_is k x y p q =
    let a : IsSmall x = InRange-small k x p in
    let b : IsSmall y = InRange-small k y q in
    omega (arith, ints, a.low, a.high, b.low, b.high)

pub difference_is :
    (k : Kind) (x y : ℤ) → InRange k x → InRange k y →
    to_z w128 (of_z w128 (to_z w128 (of_z w128 x) -ℤ to_z w128 (of_z w128 y))) ≡ x -ℤ y
difference_is k x y p q =
    let a : IsSmall x = InRange-small k x p in
    let b : IsSmall y = InRange-small k y q in
    omega (arith, ints, a.low, a.high, b.low, b.high)

pub negative_is : (k : Kind) (x : ℤ) → InRange k x → to_z w128 (of_z w128 (pos 0 -ℤ to_z w128 (of_z w128 x))) ≡ neg_ℤ x
negative_is k x p = let a : IsSmall x = InRange-small k x p in omega (arith, ints, a.low, a.high)

-- a product of signed numbers fits, and one of unsigned numbers wraps at 2^128
abs_63 : (x : ℤ) → neg_ℤ (pos (2 ^ 63)) ≤ℤ x → x ≤ℤ pos (2 ^ 63 - 1) → unsigned_abs x ≤ 2 ^ 63
abs_63 (pos n) p q = omega (arith, ints, q)
abs_63 (negsuc n) p q = omega (arith, ints, p)

signed_abs : (k : Kind) (x : ℤ) → is_signed k ≡ true → InRange k x → unsigned_abs x ≤ 2 ^ 63
signed_abs kinds.Bool x e r = cc
signed_abs kinds.UChar x e r = cc
signed_abs kinds.UShort x e r = cc
signed_abs kinds.UInt x e r = cc
signed_abs kinds.ULong x e r = cc
signed_abs kinds.ULLong x e r = cc
signed_abs _ x e r = abs_63 x (omega (arith, ints, r.low)) (omega (arith, ints, r.high))

signed_product :
    (k : Kind) (x y : ℤ) → is_signed k ≡ true → InRange k x → InRange k y → int_wrapping_mul w128 x y ≡ x *ℤ y
signed_product k x y e p q =
    let fits : FitsSigned w128 (x *ℤ y) =
    fits_signed_mul w128 x y (2 ^ 63) (2 ^ 63) (signed_abs k x e p) (signed_abs k y e q) (omega arith) in
    wrapping_mul_is w128 x y (InRange-fits k x p) (InRange-fits k y q) ∙ int_wrap_fits w128 (x *ℤ y) fits

unsigned_product :
    (k : Kind) (x y : ℤ) → pos 0 ≤ℤ x → pos 0 ≤ℤ y → reduced k (int_wrapping_mul w128 x y) ≡ reduced k (x *ℤ y)
unsigned_product k (pos m) (pos n) p q =
    reduced-congruent k (int_wrapping_mul w128 (pos m) (pos n)) (pos (m * n)) (mod-same k (m * n))
unsigned_product k (pos m) (negsuc n) p q = absurd q.le
unsigned_product k (negsuc m) y p q = absurd p.le

not_negative : (k : Kind) (x : ℤ) → is_signed k ≡ false → InRange k x → pos 0 ≤ℤ x
not_negative k x e r =
    let P : Bool → Type 0 = λ b. cond b (neg_ℤ (pos (2 ^ (bits k - 1)))) (pos 0) ≤ℤ x in
    subst P e r.low

pub fitted_unsigned : (k : Kind) (z : ℤ) → is_signed k ≡ false → fitted k z ≡ Ok (scalar k (reduced k z))
unfolding fitted
fitted_unsigned k z e = rw e refl

pub product_is :
    (k : Kind) (x y : ℤ) → InRange k x → InRange k y → fitted k (int_wrapping_mul w128 x y) ≡ fitted k (x *ℤ y)
product_is k x y p q = by_sign (is_signed k) refl
  where
    by_sign : (b : Bool) → is_signed k ≡ b → fitted k (int_wrapping_mul w128 x y) ≡ fitted k (x *ℤ y)
    by_sign true e = ap (fitted k) (signed_product k x y e p q)
    by_sign false e =
        fitted_unsigned k (int_wrapping_mul w128 x y) e
        ∙ ap (λ n. Ok (scalar k n)) (unsigned_product k x y (not_negative k x e p) (not_negative k y e q))
        ∙ sym (fitted_unsigned k (x *ℤ y) e)

-- a quotient is no greater than the dividend
abs_neg : (n : ℕ) → unsigned_abs (neg_ℤ (pos n)) ≡ n
abs_neg zero = refl
abs_neg (suc n) = refl

abs_quotient : (x y : ℤ) → unsigned_abs (int_div x y) ≤ unsigned_abs x
abs_quotient (pos a) (pos b) = div-le_self a b
abs_quotient (pos a) (negsuc b) = omega (arith, abs_neg (a / suc b), div-le_self a (suc b))
abs_quotient (negsuc a) (pos b) = omega (arith, abs_neg (suc a / b), div-le_self (suc a) b)
abs_quotient (negsuc a) (negsuc b) = div-le_self (suc a) (suc b)

small_abs : (x : ℤ) → IsSmall x → unsigned_abs x ≤ 2 ^ 64
small_abs (pos n) s = omega (arith, ints, s.high)
small_abs (negsuc n) s = omega (arith, ints, s.low)

pub quotient_fits : (k : Kind) (x y : ℤ) → InRange k x → FitsSigned w128 (int_div x y)
quotient_fits k x y p =
    fits_signed_from_abs w128 (int_div x y) (omega (arith, abs_quotient x y, small_abs x (InRange-small k x p)))

pub quotient_is :
    (k : Kind) (x y : ℤ) → InRange k x → InRange k y →
    to_z w128 (of_z w128 (int_div (to_z w128 (of_z w128 x)) (to_z w128 (of_z w128 y)))) ≡ int_div x y
quotient_is k x y p q = quot_is w128 x y (InRange-fits k x p) (InRange-fits k y q) (quotient_fits k x y p)

-- a remainder is between 0 and the dividend
rem_in_range : (k : Kind) (x y : ℤ) → InRange k x → InRange k (int_rem x y)
rem_in_range k (pos a) y r =
    let s : Spans k = spans k in
    let le : a % unsigned_abs y ≤ a = mod-le a (unsigned_abs y) in
    record { low = omega (arith, ints, s.low); high = omega (arith, ints, r.high) }
rem_in_range k (negsuc a) y r =
    let s : Spans k = spans k in
    let le : suc a % unsigned_abs y ≤ suc a = mod-le (suc a) (unsigned_abs y) in
    record { low = omega (arith, ints, r.low); high = omega (arith, ints, s.high) }

-- the dividend less the quotient's multiple of the divisor
multiple_is : (x y : ℤ) → int_div x y *ℤ y ≡ x -ℤ int_rem x y
multiple_is x y = omega (arith, ints, quot-rem x y)

pub multiple_fits :
    (k : Kind) (x y : ℤ) → InRange k x → InRange k y →
    FitsSigned w128 (to_z w128 (of_z w128 (int_div (to_z w128 (of_z w128 x)) (to_z w128 (of_z w128 y)))) *ℤ to_z w128 (of_z w128 y))
multiple_fits k x y p q =
    let a : IsSmall x = InRange-small k x p in
    let b : IsSmall (int_rem x y) = InRange-small k (int_rem x y) (rem_in_range k x y p) in
    let e : to_z w128 (of_z w128 (int_div (to_z w128 (of_z w128 x)) (to_z w128 (of_z w128 y)))) *ℤ to_z w128 (of_z w128 y) ≡ x -ℤ int_rem x y =
    ap (λ n. n *ℤ to_z w128 (of_z w128 y)) (quotient_is k x y p q) ∙ ap (λ n. int_div x y *ℤ n) (kept k y q) ∙ multiple_is x y in
    let fits : FitsSigned w128 (x -ℤ int_rem x y) = omega (arith, ints, a.low, a.high, b.low, b.high) in
    subst (FitsSigned w128) (sym e) fits

pub remainder_is :
    (k : Kind) (x y : ℤ) → InRange k x → InRange k y →
    to_z w128 (of_z w128 x)
    -ℤ to_z w128 (of_z w128 (to_z w128 (of_z w128 (int_div (to_z w128 (of_z w128 x)) (to_z w128 (of_z w128 y)))) *ℤ to_z w128 (of_z w128 y)))
    ≡ int_rem x y
remainder_is k x y p q =
    let e : to_z w128 (of_z w128 (int_div (to_z w128 (of_z w128 x)) (to_z w128 (of_z w128 y)))) *ℤ to_z w128 (of_z w128 y) ≡ x -ℤ int_rem x y =
    ap (λ n. n *ℤ to_z w128 (of_z w128 y)) (quotient_is k x y p q) ∙ ap (λ n. int_div x y *ℤ n) (kept k y q) ∙ multiple_is x y in
    let m = to_z w128 (of_z w128 (int_div (to_z w128 (of_z w128 x)) (to_z w128 (of_z w128 y)))) *ℤ to_z w128 (of_z w128 y) in
    let back : to_z w128 (of_z w128 m) ≡ m = to_z-of_z w128 m (multiple_fits k x y p q) in
    ap (λ n. n -ℤ to_z w128 (of_z w128 m)) (kept k x p) ∙ ap (λ n. x -ℤ n) (back ∙ e) ∙ omega (arith, ints)

pub remainder_in_range : (k : Kind) (x y : ℤ) → InRange k x → InRange k (int_rem x y)
remainder_in_range = rem_in_range

-- the cases of the definitions, as the code has tested them
pub false_from_not : (b : Bool) → ¬ (b ≡ true) → b ≡ false
false_from_not true h = absurd (h refl)
false_from_not false h = refl

nonzero_test : (y : ℤ) → ¬ (of_z w128 y ≡ 0) → int_eq y (pos 0) ≡ false
nonzero_test y h =
    false_from_not (int_eq y (pos 0)) (λ e. h (ap (of_z w128) ((Decides-int_eq y (pos 0)).0 e)))

pub quotient_nonzero :
    (k : Kind) (x y : ℤ) → ¬ (of_z w128 y ≡ 0) → represented k (int_div x y) ≡ quotient k x y
unfolding quotient
quotient_nonzero k x y h = rw (nonzero_test y h) refl

pub remainder_represented :
    (k : Kind) (x y : ℤ) → ¬ (of_z w128 y ≡ 0) → is_in_range k (int_div x y) ≡ true →
    Ok (scalar k (int_rem x y)) ≡ remainder k x y
unfolding remainder
remainder_represented k x y h e = rw (nonzero_test y h, e) refl

pub remainder_overflows :
    (k : Kind) (x y : ℤ) → ¬ (of_z w128 y ≡ 0) → is_in_range k (int_div x y) ≡ false →
    Err Overflow ≡ remainder k x y
unfolding remainder
remainder_overflows k x y h e = rw (nonzero_test y h, e) refl

pub shifted_left_counted :
    (k : Kind) (x c : ℤ) → is_count k c ≡ true → int_lt x (pos 0) ≡ false →
    Ok (scalar k (reduced k (x *ℤ pos (2 ^ unsigned_abs c)))) ≡ shifted_left k x c
unfolding shifted_left
shifted_left_counted k x c e h = rw (e, h) refl

pub shifted_right_counted :
    (k : Kind) (x c : ℤ) → is_count k c ≡ true →
    Ok (scalar k (int_div_euclid x (pos (2 ^ unsigned_abs c)))) ≡ shifted_right k x c
unfolding shifted_right
shifted_right_counted k x c e = rw e refl

-- ---- bits

-- a natural is congruent to what is left of it
mod_congruent : (m n : ℕ) → Congruent m (pos n) (pos (n % m))
mod_congruent m n = record { up = 0; down = n / m; same = ap pos (omega (arith, div-add-mod' n m)) }

of_z_below : (z : ℤ) → FitsSigned w128 z → of_z w128 z < 2 ^ 128
of_z_below (pos n) f = omega (arith, f.sfits)
of_z_below (negsuc n) f = omega (arith, f.sfits)

-- an operation on each bit has its low bits from the low bits of the operands
on_low_bits :
    (f : ℕ → ℕ → ℕ) → ((a b n : ℕ) → f a b % 2 ^ n ≡ f (a % 2 ^ n) (b % 2 ^ n)) →
    (k : Kind) (x y : ℤ) → FitsSigned w128 x → FitsSigned w128 y → f (of_z w128 x) (of_z w128 y) < 2 ^ 128 →
    reduced k (to_z w128 (f (of_z w128 x) (of_z w128 y))) ≡ reduced k (pos (f (bits_of k x) (bits_of k y)))
on_low_bits f f_mod k x y p q below =
    let u = of_z w128 x in
    let v = of_z w128 y in
    let m = 2 ^ bits k in
    let low : f u v % m ≡ f (bits_of k x) (bits_of k y) =
    f_mod u v (bits k) ∙ ap (λ a. f a (v % m)) (low_bits_are k x p) ∙ ap (f (bits_of k x)) (low_bits_are k y q) in
    reduced-congruent k (to_z w128 (f u v)) (pos (f u v % m))
    (Congruent-trans m (to_z w128 (f u v)) (pos (f u v)) (pos (f u v % m)) (to_z-same k (f u v) below) (mod_congruent m (f u v)))
    ∙ ap (λ n. reduced k (pos n)) low

pub and_is :
    (k : Kind) (x y : ℤ) → FitsSigned w128 x → FitsSigned w128 y →
    reduced k (to_z w128 (bit_and (of_z w128 x) (of_z w128 y))) ≡ reduced k (pos (bit_and (bits_of k x) (bits_of k y)))
and_is k x y p q =
    on_low_bits bit_and and_mod k x y p q (omega (arith, and_le_l (of_z w128 x) (of_z w128 y), of_z_below x p))

pub or_is :
    (k : Kind) (x y : ℤ) → FitsSigned w128 x → FitsSigned w128 y →
    reduced k (to_z w128 (bit_or (of_z w128 x) (of_z w128 y))) ≡ reduced k (pos (bit_or (bits_of k x) (bits_of k y)))
or_is k x y p q =
    on_low_bits bit_or or_mod k x y p q (or_lt 128 (of_z w128 x) (of_z w128 y) (of_z_below x p) (of_z_below y q))

pub xor_is :
    (k : Kind) (x y : ℤ) → FitsSigned w128 x → FitsSigned w128 y →
    reduced k (to_z w128 (bit_xor (of_z w128 x) (of_z w128 y))) ≡ reduced k (pos (bit_xor (bits_of k x) (bits_of k y)))
xor_is k x y p q =
    on_low_bits bit_xor xor_mod k x y p q (xor_lt 128 (of_z w128 x) (of_z w128 y) (of_z_below x p) (of_z_below y q))

-- to invert the bits of x is to subtract it from -1
not_value : (x : ℤ) → FitsSigned w128 x → to_z w128 (2 ^ 128 - 1 - of_z w128 x) ≡ negsuc 0 -ℤ x
not_value (pos n) f = ap (to_z w128) (omega arith) ∙ to_z-of_z w128 (negsuc n) (record { sfits = f.sfits }) ∙ omega (arith, ints)
not_value (negsuc n) f = ap (to_z w128) (omega (arith, f.sfits)) ∙ to_z-of_z w128 (pos n) (record { sfits = f.sfits }) ∙ omega (arith, ints)

pub whole_is : (z : ℤ) → pos 0 ≤ℤ z → z ≡ pos (unsigned_abs z)
whole_is (pos n) p = refl
whole_is (negsuc n) p = absurd p.le

pub not_is :
    (k : Kind) (x : ℤ) → FitsSigned w128 x →
    reduced k (to_z w128 (2 ^ 128 - 1 - of_z w128 x)) ≡ reduced k (pos (2 ^ bits k - 1 - bits_of k x))
not_is k x f =
    let m = 2 ^ bits k in
    let b = bits_of k x in
    let r : IsResidue m x (int_rem_euclid x (pos m)) = rem_is_residue m x (pow_pos (bits k)) in
    let e : int_rem_euclid x (pos m) ≡ pos b = whole_is (int_rem_euclid x (pos m)) r.low in
    let same : x +ℤ pos (r.same.up * m) ≡ pos b +ℤ pos (r.same.down * m) = omega (arith, ints, e, r.same.same) in
    let below : b < m = omega (arith, ints, e, r.high) in
    let c : Congruent m (negsuc 0 -ℤ x) (pos (m - 1 - b)) =
    record { up = r.same.down + 1; down = r.same.up; same = omega (arith, ints, same, below) } in
    ap (reduced k) (not_value x f) ∙ reduced-congruent k (negsuc 0 -ℤ x) (pos (m - 1 - b)) c

-- ---- shifts

pub shl_is :
    (k : Kind) (x c : ℤ) → pos 0 ≤ℤ x → FitsSigned w128 c →
    reduced k (to_z w128 ((of_z w128 x * 2 ^ unsigned_abs (to_z w128 (of_z w128 c))) % 2 ^ 128))
    ≡ reduced k (x *ℤ pos (2 ^ unsigned_abs c))
shl_is k (pos n) c p f =
    ap (λ d. reduced k (to_z w128 ((n * 2 ^ unsigned_abs d) % 2 ^ 128))) (to_z-of_z w128 c f)
    ∙ reduced-congruent k (to_z w128 ((n * 2 ^ unsigned_abs c) % 2 ^ 128)) (pos (n * 2 ^ unsigned_abs c))
    (mod-same k (n * 2 ^ unsigned_abs c))
shl_is k (negsuc n) c p f = absurd p.le

shr_in_range : (k : Kind) (x : ℤ) (m : ℕ) → InRange k x → InRange k (shr_z x m)
shr_in_range k (pos a) m r =
    let s : Spans k = spans k in
    record { low = omega (arith, ints, s.low); high = omega (arith, ints, r.high, div-le_self a m) }
shr_in_range k (negsuc a) m r =
    let s : Spans k = spans k in
    record { low = omega (arith, ints, r.low, div-le_self a m); high = omega (arith, ints, s.high) }

floor_is : (x : ℤ) (m : ℕ) → shr_z x m ≡ int_div_euclid x (pos m)
floor_is (pos a) m = refl
floor_is (negsuc a) m = refl

pub floor_in_range : (k : Kind) (x : ℤ) (m : ℕ) → InRange k x → InRange k (int_div_euclid x (pos m))
floor_in_range k x m r = subst (InRange k) (floor_is x m) (shr_in_range k x m r)

pub shr_is :
    (k : Kind) (x c : ℤ) → InRange k x → FitsSigned w128 c →
    to_z w128 (of_z w128 (shr_z (to_z w128 (of_z w128 x)) (2 ^ unsigned_abs (to_z w128 (of_z w128 c)))))
    ≡ int_div_euclid x (pos (2 ^ unsigned_abs c))
shr_is k x c p f =
    ap (λ z. to_z w128 (of_z w128 (shr_z z (2 ^ unsigned_abs (to_z w128 (of_z w128 c)))))) (kept k x p)
    ∙ ap (λ d. to_z w128 (of_z w128 (shr_z x (2 ^ unsigned_abs d)))) (to_z-of_z w128 c f)
    ∙ kept k (shr_z x (2 ^ unsigned_abs c)) (shr_in_range k x (2 ^ unsigned_abs c) p) ∙ floor_is x (2 ^ unsigned_abs c)
