-- The laws of the definitions.
use Rattle.std.proofs.Common.{◌≡◌, ◌≢◌, ◌↔◌, refl, sym, ap, subst, ◌∙◌, ℕ, zero, suc, ◌+◌, ◌-◌, ◌*◌, ◌%◌, ◌^◌, ◌<◌, min, max, ℤ, pos, negsuc, ◌+ℤ◌, ◌-ℤ◌, ◌*ℤ◌, neg_ℤ, ◌≤ℤ◌, ◌<ℤ◌, bit_and, bit_or, bit_xor, Bool, true, false, cond, not, Result, Ok, Err, IfOk, arith, unsigned_abs}
use Rattle.std.specs.Prelude.{int_div, int_rem, int_lt, int_le}
use Rattle.std.specs.Int.{int_rem_euclid, int_div_euclid, bit_at}
use Rattle.std.specs.Ordering.{int_eq}
use Rattle.std.proofs.lemmas.Int.{ints, quot-rem}
use Rattle.std.proofs.lemmas.Bool.Decides.{Decides-int_eq}
use Rattle.std.proofs.lemmas.Nat.{pow_pos, and_le_l, or_lt, xor_lt, and-not, pow_below}
use Rattle.std.proofs.lemmas.Nat.Bits.{bit_at_and, bit_at_or, bit_at_xor, and_pow}
use Rattle.std.proofs.Math.Nat.{mod-eq_of_lt}
use Rattle.sy_num.specs.declared.Kind.{Kind}
use Rattle.sy_num.specs.declared.Kind.TheVariants as kinds
use Rattle.sy_num.specs.declared.Kind.TheVariants.{Char, SChar, UChar, Short, UShort, Int, UInt, Long, ULong, LLong, ULLong}
use Rattle.sy_num.specs.declared.BinOp.{BinOp}
use Rattle.sy_num.specs.declared.BinOp.TheVariants as ops
use Rattle.sy_num.specs.declared.UnOp.{UnOp}
use Rattle.sy_num.specs.declared.UnOp.TheVariants as unary
use Rattle.sy_num.specs.declared.Undefined.{Undefined}
use Rattle.sy_num.specs.declared.Undefined.TheVariants.{Overflow, ZeroDivisor, Shift}
use Rattle.sy_num.specs.Kinds.{bits, least, greatest, is_signed, InRange, is_in_range, promoted, common_kind}
use Rattle.sy_num.specs.Scalars.{Scalar, scalar, Congruent, modulus, reduced, converted_num, bits_of}
use Rattle.sy_num.specs.Operators.{represented, fitted, quotient, remainder, is_count, shifted_left, shifted_right, on_bits, flipped, truth, common_of, left_of, right_of, promoted_num, applied, applied_one, result_kind, result_kind_one}
use Rattle.sy_num.proofs.Residues.{Spans, spans, IsResidue, rem_is_residue, reduced_is_reduced, reduced_is, rem-congruent}
use Rattle.sy_num.proofs.Computed.{fitted_unsigned, false_from_not, remainder_in_range, floor_in_range, whole_is}

-- ---- kinds

common_laws : (j k : Kind) → (common_kind j k ≡ common_kind k j) × (promoted (common_kind j k) ≡ common_kind j k)
unfolding common_kind
common_laws kinds.Bool kinds.Bool = (refl, refl)
common_laws kinds.Bool _ = (refl, refl)
common_laws Char kinds.Bool = (refl, refl)
common_laws Char _ = (refl, refl)
common_laws SChar kinds.Bool = (refl, refl)
common_laws SChar _ = (refl, refl)
common_laws UChar kinds.Bool = (refl, refl)
common_laws UChar _ = (refl, refl)
common_laws Short kinds.Bool = (refl, refl)
common_laws Short _ = (refl, refl)
common_laws UShort kinds.Bool = (refl, refl)
common_laws UShort _ = (refl, refl)
common_laws Int kinds.Bool = (refl, refl)
common_laws Int _ = (refl, refl)
common_laws UInt kinds.Bool = (refl, refl)
common_laws UInt _ = (refl, refl)
common_laws Long kinds.Bool = (refl, refl)
common_laws Long _ = (refl, refl)
common_laws ULong kinds.Bool = (refl, refl)
common_laws ULong _ = (refl, refl)
common_laws LLong kinds.Bool = (refl, refl)
common_laws LLong _ = (refl, refl)
common_laws ULLong kinds.Bool = (refl, refl)
common_laws ULLong _ = (refl, refl)

pub common_kind-sym : (j k : Kind) → common_kind j k ≡ common_kind k j
common_kind-sym j k = (common_laws j k).0

pub common_kind_is_promoted : (j k : Kind) → promoted (common_kind j k) ≡ common_kind j k
common_kind_is_promoted j k = (common_laws j k).1

pub common_kind-same : (k : Kind) → common_kind k k ≡ promoted k
unfolding common_kind
common_kind-same kinds.Bool = refl
common_kind-same _ = refl

-- ---- conversions

itself : (n : ℕ) (z : ℤ) → Congruent n z z
itself n z = record { up = 0; down = 0; same = refl }

bool_one : (z : ℤ) → z ≢ pos 0 → converted_num kinds.Bool z ≡ pos 1
unfolding converted_num
bool_one z h = rw (false_from_not (int_eq z (pos 0)) (λ e. h ((Decides-int_eq z (pos 0)).0 e))) refl

positive : (n : ℕ) → pos (suc n) ≢ pos 0
positive n e = cc

bool_identity : (z : ℤ) → InRange kinds.Bool z → converted_num kinds.Bool z ≡ z
unfolding converted_num
bool_identity (pos zero) r = refl
bool_identity (pos (suc n)) r = bool_one (pos (suc n)) (positive n) ∙ ap pos (omega (arith, ints, r.high))
bool_identity (negsuc n) r = absurd r.low.le

bool_in_range : (z : ℤ) → InRange kinds.Bool (converted_num kinds.Bool z)
unfolding converted_num
bool_in_range (pos zero) = record { low = omega (arith, ints); high = omega (arith, ints) }
bool_in_range (pos (suc n)) =
    subst (InRange kinds.Bool) (sym (bool_one (pos (suc n)) (positive n))) (record { low = omega (arith, ints); high = omega (arith, ints) })
bool_in_range (negsuc n) =
    subst (InRange kinds.Bool) (sym (bool_one (negsuc n) (λ e. cc))) (record { low = omega (arith, ints); high = omega (arith, ints) })

pub converted_identity : (k : Kind) (z : ℤ) → InRange k z → converted_num k z ≡ z
unfolding converted_num
converted_identity kinds.Bool z r = bool_identity z r
converted_identity k z r = reduced_is k z z r (itself (2 ^ bits k) z)

pub converted_in_range : (k : Kind) (z : ℤ) → InRange k (converted_num k z)
unfolding converted_num
converted_in_range kinds.Bool z = bool_in_range z
converted_in_range k z = (reduced_is_reduced k z).in_range

pub converted_modular : (k : Kind) (z : ℤ) → k ≢ kinds.Bool → Congruent (2 ^ bits k) z (converted_num k z)
unfolding converted_num
converted_modular kinds.Bool z h = absurd (h refl)
converted_modular k z h = (reduced_is_reduced k z).same

pub converted_only :
    (k : Kind) (z y : ℤ) → k ≢ kinds.Bool → InRange k y → Congruent (2 ^ bits k) z y → converted_num k z ≡ y
unfolding converted_num
converted_only kinds.Bool z y h r c = absurd (h refl)
converted_only k z y h r c = reduced_is k z y r c

only_zero : (z : ℤ) → converted_num kinds.Bool z ≡ pos 0 → z ≡ pos 0
only_zero (pos zero) e = refl
only_zero (pos (suc n)) e = absurd (positive 0 (sym (bool_one (pos (suc n)) (positive n)) ∙ e))
only_zero (negsuc n) e = absurd (positive 0 (sym (bool_one (negsuc n) (λ h. cc)) ∙ e))

pub converted_to_bool : (z : ℤ) → (converted_num kinds.Bool z ≡ pos 0) ↔ (z ≡ pos 0)
unfolding converted_num
converted_to_bool z = (only_zero z, λ e. ap (converted_num kinds.Bool) e)

promoted_wider : (k : Kind) (z : ℤ) → InRange k z → InRange (promoted k) z
promoted_wider kinds.Bool z r = record { low = omega (arith, ints, r.low); high = omega (arith, ints, r.high) }
promoted_wider _ z r = record { low = omega (arith, ints, r.low); high = omega (arith, ints, r.high) }

pub promotion_keeps : (k : Kind) (z : ℤ) → InRange k z → converted_num (promoted k) z ≡ z
promotion_keeps k z r = converted_identity (promoted k) z (promoted_wider k z r)

-- ---- unsigned arithmetic

unsigned_least : (k : Kind) → is_signed k ≡ false → least k ≡ pos 0
unsigned_least k e = rw e refl

reduced_unsigned : (k : Kind) (z : ℤ) → is_signed k ≡ false → reduced k z ≡ int_rem_euclid z (modulus k)
reduced_unsigned k z e =
    let s : Spans k = spans k in
    let r : IsResidue (2 ^ bits k) z (int_rem_euclid z (modulus k)) = rem_is_residue (2 ^ bits k) z (pow_pos (bits k)) in
    let zero_least : least k ≡ pos 0 = unsigned_least k e in
    let all : greatest k +ℤ pos 1 ≡ pos 0 +ℤ pos (2 ^ bits k) = s.all ∙ ap (λ n. n +ℤ pos (2 ^ bits k)) zero_least in
    let P : ℤ → Type 0 = λ n. n ≤ℤ int_rem_euclid z (modulus k) in
    reduced_is k z (int_rem_euclid z (modulus k))
    (record { low = subst P (sym zero_least) r.low; high = omega (arith, ints, r.high, all) }) r.same

modular : (k : Kind) (z : ℤ) → is_signed k ≡ false → fitted k z ≡ Ok (scalar k (int_rem_euclid z (modulus k)))
modular k z e = fitted_unsigned k z e ∙ ap (λ n. Ok (scalar k n)) (reduced_unsigned k z e)

pub unsigned_sum :
    (a b : Scalar) → is_signed (common_of a b) ≡ false →
    applied ops.Add a b ≡ Ok (scalar (common_of a b) (int_rem_euclid (left_of a b +ℤ right_of a b) (modulus (common_of a b))))
unfolding applied
unsigned_sum a b = modular (common_of a b) (left_of a b +ℤ right_of a b)

pub unsigned_difference :
    (a b : Scalar) → is_signed (common_of a b) ≡ false →
    applied ops.Sub a b ≡ Ok (scalar (common_of a b) (int_rem_euclid (left_of a b -ℤ right_of a b) (modulus (common_of a b))))
unfolding applied
unsigned_difference a b = modular (common_of a b) (left_of a b -ℤ right_of a b)

pub unsigned_product :
    (a b : Scalar) → is_signed (common_of a b) ≡ false →
    applied ops.Mul a b ≡ Ok (scalar (common_of a b) (int_rem_euclid (left_of a b *ℤ right_of a b) (modulus (common_of a b))))
unfolding applied
unsigned_product a b = modular (common_of a b) (left_of a b *ℤ right_of a b)

-- ---- division

-- what holds of the value of a choice that may be an error
chosen : (b : Bool) (v : Scalar) (e : Undefined) (P : Scalar → Type 0) → P v → IfOk (cond b (Ok v) (Err e)) P
chosen true v e P p = p
chosen false v e P p = tt

unless : (b : Bool) (r : Result Scalar Undefined) (e : Undefined) (P : Scalar → Type 0) → IfOk r P → IfOk (cond b (Err e) r) P
unless true r e P p = tt
unless false r e P p = p

quotient_value : (k : Kind) (x y : ℤ) → IfOk (quotient k x y) (λ q. q.num ≡ int_div x y)
unfolding quotient represented
quotient_value k x y =
    unless (int_eq y (pos 0)) (represented k (int_div x y)) ZeroDivisor (λ q. q.num ≡ int_div x y)
    (chosen (is_in_range k (int_div x y)) (scalar k (int_div x y)) Overflow (λ q. q.num ≡ int_div x y) refl)

remainder_value : (k : Kind) (x y : ℤ) → IfOk (remainder k x y) (λ r. r.num ≡ int_rem x y)
unfolding remainder
remainder_value k x y =
    unless (int_eq y (pos 0)) (cond (is_in_range k (int_div x y)) (Ok (scalar k (int_rem x y))) (Err Overflow)) ZeroDivisor
    (λ r. r.num ≡ int_rem x y)
    (chosen (is_in_range k (int_div x y)) (scalar k (int_rem x y)) Overflow (λ r. r.num ≡ int_rem x y) refl)

of_Ok : (r : Result Scalar Undefined) (v : Scalar) (P : Scalar → Type 0) → IfOk r P → r ≡ Ok v → P v
of_Ok r v P p e = let Q : Result Scalar Undefined → Type 0 = λ s. IfOk s P in subst Q e p

pub whole :
    (a b q r : Scalar) → applied ops.Div a b ≡ Ok q → applied ops.Rem a b ≡ Ok r →
    q.num *ℤ right_of a b +ℤ r.num ≡ left_of a b
unfolding applied
whole a b q r d m =
    let k = common_of a b in
    let x = left_of a b in
    let y = right_of a b in
    let dq : q.num ≡ int_div x y = of_Ok (quotient k x y) q (λ v. v.num ≡ int_div x y) (quotient_value k x y) d in
    let mr : r.num ≡ int_rem x y = of_Ok (remainder k x y) r (λ v. v.num ≡ int_rem x y) (remainder_value k x y) m in
    ap (λ n. n *ℤ y +ℤ r.num) dq ∙ ap (λ n. int_div x y *ℤ y +ℤ n) mr ∙ quot-rem x y

refused_alike :
    (z f : Bool) (q r : Scalar) (why : Undefined) →
    (cond z (Err ZeroDivisor) (cond f (Ok q) (Err Overflow)) ≡ Err why)
    ↔ (cond z (Err ZeroDivisor) (cond f (Ok r) (Err Overflow)) ≡ Err why)
refused_alike true f q r why = (λ e. e, λ e. e)
refused_alike false true q r why = (λ e. cc, λ e. cc)
refused_alike false false q r why = (λ e. e, λ e. e)

pub together : (a b : Scalar) (why : Undefined) → (applied ops.Div a b ≡ Err why) ↔ (applied ops.Rem a b ≡ Err why)
unfolding applied quotient remainder represented
together a b why =
    let k = common_of a b in
    let x = left_of a b in
    let y = right_of a b in
    refused_alike (int_eq y (pos 0)) (is_in_range k (int_div x y)) (scalar k (int_div x y)) (scalar k (int_rem x y)) why

-- ---- comparisons

abbrev answered : Bool → Result Scalar Undefined
answered b = Ok (truth b)

true_alone : (b : Bool) → answered b ≡ answered true → b ≡ true
true_alone true e = refl
true_alone false e =
    let same : truth false ≡ truth true = cc in
    absurd (positive 0 (sym (ap (λ v. v.num) same)))

answers : (b : Bool) (P : Type 0) → (b ≡ true → P) → (P → b ≡ true) → (answered b ≡ answered true) ↔ P
answers b P from to = (λ e. from (true_alone b e), λ p. ap answered (to p))

less_tells : (x y : ℤ) → int_lt x y ≡ true → x <ℤ y
less_tells x y e = grind (arith, ints)

less_told : (x y : ℤ) → x <ℤ y → int_lt x y ≡ true
less_told x y h = grind (arith, ints)

at_most_tells : (x y : ℤ) → int_le x y ≡ true → x ≤ℤ y
at_most_tells x y e = grind (arith, ints)

at_most_told : (x y : ℤ) → x ≤ℤ y → int_le x y ≡ true
at_most_told x y h = grind (arith, ints)

pub equal : (a b : Scalar) → (applied ops.Eq a b ≡ Ok (truth true)) ↔ (left_of a b ≡ right_of a b)
unfolding applied
equal a b =
    let x = left_of a b in
    let y = right_of a b in
    answers (int_eq x y) (x ≡ y) (Decides-int_eq x y).0 (Decides-int_eq x y).1

not_true : (b : Bool) → not b ≡ true → ¬ (b ≡ true)
not_true true e h = cc
not_true false e h = cc

not_told : (b : Bool) → ¬ (b ≡ true) → not b ≡ true
not_told true h = absurd (h refl)
not_told false h = refl

pub not_equal : (a b : Scalar) → (applied ops.Ne a b ≡ Ok (truth true)) ↔ (left_of a b ≢ right_of a b)
unfolding applied
not_equal a b =
    let x = left_of a b in
    let y = right_of a b in
    answers (not (int_eq x y)) (x ≢ y) (λ e h. not_true (int_eq x y) e ((Decides-int_eq x y).1 h))
    (λ h. not_told (int_eq x y) (λ e. h ((Decides-int_eq x y).0 e)))

pub less : (a b : Scalar) → (applied ops.Lt a b ≡ Ok (truth true)) ↔ (left_of a b <ℤ right_of a b)
unfolding applied
less a b =
    let x = left_of a b in
    let y = right_of a b in
    answers (int_lt x y) (x <ℤ y) (less_tells x y) (less_told x y)

pub at_most : (a b : Scalar) → (applied ops.Le a b ≡ Ok (truth true)) ↔ (left_of a b ≤ℤ right_of a b)
unfolding applied
at_most a b =
    let x = left_of a b in
    let y = right_of a b in
    answers (int_le x y) (x ≤ℤ y) (at_most_tells x y) (at_most_told x y)

pub greater : (a b : Scalar) → (applied ops.Gt a b ≡ Ok (truth true)) ↔ (right_of a b <ℤ left_of a b)
unfolding applied
greater a b =
    let x = left_of a b in
    let y = right_of a b in
    answers (int_lt y x) (y <ℤ x) (less_tells y x) (less_told y x)

pub at_least : (a b : Scalar) → (applied ops.Ge a b ≡ Ok (truth true)) ↔ (right_of a b ≤ℤ left_of a b)
unfolding applied
at_least a b =
    let x = left_of a b in
    let y = right_of a b in
    answers (int_le y x) (y ≤ℤ x) (at_most_tells y x) (at_most_told y x)

-- ---- bits

bits_below : (k : Kind) (z : ℤ) → bits_of k z < 2 ^ bits k
bits_below k z =
    let r : IsResidue (2 ^ bits k) z (int_rem_euclid z (modulus k)) = rem_is_residue (2 ^ bits k) z (pow_pos (bits k)) in
    omega (arith, ints, whole_is (int_rem_euclid z (modulus k)) r.low, r.high)

-- a number of N bits keeps them as it is reduced
bits_kept : (k : Kind) (n : ℕ) → n < 2 ^ bits k → bits_of k (reduced k (pos n)) ≡ n
bits_kept k n h =
    let small : n % 2 ^ bits k ≡ n = mod-eq_of_lt h in
    ap unsigned_abs (sym (rem-congruent (2 ^ bits k) (pos n) (reduced k (pos n)) (pow_pos (bits k)) (reduced_is_reduced k (pos n)).same))
    ∙ small

pub bits_and :
    (k : Kind) (x y : ℤ) (i : ℕ) →
    bit_at (bits_of k (on_bits bit_and k x y).num) i ≡ min (bit_at (bits_of k x) i) (bit_at (bits_of k y) i)
unfolding on_bits
bits_and k x y i =
    let below : bit_and (bits_of k x) (bits_of k y) < 2 ^ bits k =
    omega (arith, and_le_l (bits_of k x) (bits_of k y), bits_below k x) in
    ap (λ n. bit_at n i) (bits_kept k (bit_and (bits_of k x) (bits_of k y)) below) ∙ bit_at_and (bits_of k x) (bits_of k y) i

pub bits_or :
    (k : Kind) (x y : ℤ) (i : ℕ) →
    bit_at (bits_of k (on_bits bit_or k x y).num) i ≡ max (bit_at (bits_of k x) i) (bit_at (bits_of k y) i)
unfolding on_bits
bits_or k x y i =
    let below : bit_or (bits_of k x) (bits_of k y) < 2 ^ bits k =
    or_lt (bits k) (bits_of k x) (bits_of k y) (bits_below k x) (bits_below k y) in
    ap (λ n. bit_at n i) (bits_kept k (bit_or (bits_of k x) (bits_of k y)) below) ∙ bit_at_or (bits_of k x) (bits_of k y) i

pub bits_xor :
    (k : Kind) (x y : ℤ) (i : ℕ) →
    bit_at (bits_of k (on_bits bit_xor k x y).num) i ≡ (bit_at (bits_of k x) i + bit_at (bits_of k y) i) % 2
unfolding on_bits
bits_xor k x y i =
    let below : bit_xor (bits_of k x) (bits_of k y) < 2 ^ bits k =
    xor_lt (bits k) (bits_of k x) (bits_of k y) (bits_below k x) (bits_below k y) in
    ap (λ n. bit_at n i) (bits_kept k (bit_xor (bits_of k x) (bits_of k y)) below) ∙ bit_at_xor (bits_of k x) (bits_of k y) i

one_of : (a b p : ℕ) → 0 < p → a * p + b * p ≡ p → a ≡ 1 - b
one_of zero zero p h e = absurd (omega (arith, h, e))
one_of zero (suc zero) p h e = refl
one_of zero (suc (suc b)) p h e = absurd (omega (arith, h, e))
one_of (suc zero) zero p h e = refl
one_of (suc zero) (suc b) p h e = absurd (omega (arith, h, e))
one_of (suc (suc a)) b p h e = absurd (omega (arith, h, e))

bit_inverted : (w n i : ℕ) → n < 2 ^ w → i < w → bit_at (2 ^ w - 1 - n) i ≡ 1 - bit_at n i
bit_inverted w n i h below =
    let p = 2 ^ i in
    let m = 2 ^ w - 1 - n in
    let sum : bit_at m i * p + bit_at n i * p ≡ p =
    sym (ap (λ a. a + bit_at n i * p) (and_pow m i)) ∙ sym (ap (λ a. bit_and m p + a) (and_pow n i))
    ∙ and-not w n p h (pow_below i w below) in
    one_of (bit_at m i) (bit_at n i) p (pow_pos i) sum

pub bits_not : (k : Kind) (x : ℤ) (i : ℕ) → i < bits k → bit_at (bits_of k (flipped k x).num) i ≡ 1 - bit_at (bits_of k x) i
unfolding flipped
bits_not k x i below =
    ap (λ n. bit_at n i) (bits_kept k (2 ^ bits k - 1 - bits_of k x) (omega (arith, pow_pos (bits k))))
    ∙ bit_inverted (bits k) (bits_of k x) i (bits_below k x) below

-- ---- the kind of a result

abbrev Has : Kind → Result Scalar Undefined → Type 0
Has k r = IfOk r (λ v. (v.kind ≡ k) × InRange k v.num)

test_tells : (k : Kind) (z : ℤ) → is_in_range k z ≡ true → InRange k z
test_tells k z e = grind (arith, ints)

has_represented : (k : Kind) (z : ℤ) → Has k (represented k z)
unfolding represented
has_represented k z = by_test (is_in_range k z) refl
  where
    by_test : (b : Bool) → is_in_range k z ≡ b → Has k (cond b (Ok (scalar k z)) (Err Overflow))
    by_test true e = (refl, test_tells k z e)
    by_test false e = tt

has_reduced : (k : Kind) (z : ℤ) → Has k (Ok (scalar k (reduced k z)))
has_reduced k z = (refl, (reduced_is_reduced k z).in_range)

has_fitted : (k : Kind) (z : ℤ) → Has k (fitted k z)
unfolding fitted
has_fitted k z = by_sign (is_signed k)
  where
    by_sign : (b : Bool) → Has k (cond b (represented k z) (Ok (scalar k (reduced k z))))
    by_sign true = has_represented k z
    by_sign false = has_reduced k z

has_quotient : (k : Kind) (x y : ℤ) → Has k (quotient k x y)
unfolding quotient
has_quotient k x y =
    unless (int_eq y (pos 0)) (represented k (int_div x y)) ZeroDivisor (λ v. (v.kind ≡ k) × InRange k v.num)
    (has_represented k (int_div x y))

has_remainder : (k : Kind) (x y : ℤ) → InRange k x → Has k (remainder k x y)
unfolding remainder
has_remainder k x y r =
    let P : Scalar → Type 0 = λ v. (v.kind ≡ k) × InRange k v.num in
    unless (int_eq y (pos 0)) (cond (is_in_range k (int_div x y)) (Ok (scalar k (int_rem x y))) (Err Overflow)) ZeroDivisor P
    (chosen (is_in_range k (int_div x y)) (scalar k (int_rem x y)) Overflow P (refl, remainder_in_range k x y r))

has_shifted_left : (k : Kind) (x c : ℤ) → Has k (shifted_left k x c)
unfolding shifted_left
has_shifted_left k x c = by_tests (is_count k c) (int_lt x (pos 0))
  where
    by_tests : (p q : Bool) → Has k (cond p (cond q (Err Overflow) (Ok (scalar k (reduced k (x *ℤ pos (2 ^ unsigned_abs c)))))) (Err Shift))
    by_tests true true = tt
    by_tests true false = has_reduced k (x *ℤ pos (2 ^ unsigned_abs c))
    by_tests false q = tt

has_shifted_right : (k : Kind) (x c : ℤ) → InRange k x → Has k (shifted_right k x c)
unfolding shifted_right
has_shifted_right k x c r =
    let v = scalar k (int_div_euclid x (pos (2 ^ unsigned_abs c))) in
    let P : Scalar → Type 0 = λ v. (v.kind ≡ k) × InRange k v.num in
    chosen (is_count k c) v Shift P (refl, floor_in_range k x (2 ^ unsigned_abs c) r)

has_truth : (b : Bool) → Has kinds.Bool (Ok (truth b))
has_truth true = (refl, record { low = omega (arith, ints); high = omega (arith, ints) })
has_truth false = (refl, record { low = omega (arith, ints); high = omega (arith, ints) })

has_on_bits : (f : ℕ → ℕ → ℕ) (k : Kind) (x y : ℤ) → Has k (Ok (on_bits f k x y))
unfolding on_bits
has_on_bits f k x y = has_reduced k (pos (f (bits_of k x) (bits_of k y)))

has_flipped : (k : Kind) (x : ℤ) → Has k (Ok (flipped k x))
unfolding flipped
has_flipped k x = has_reduced k (pos (2 ^ bits k - 1 - bits_of k x))

has_result : (op : BinOp) (a b : Scalar) → Has (result_kind op a.kind b.kind) (applied op a b)
unfolding applied
has_result ops.Add a b = has_fitted (common_of a b) (left_of a b +ℤ right_of a b)
has_result ops.Sub a b = has_fitted (common_of a b) (left_of a b -ℤ right_of a b)
has_result ops.Mul a b = has_fitted (common_of a b) (left_of a b *ℤ right_of a b)
has_result ops.Div a b = has_quotient (common_of a b) (left_of a b) (right_of a b)
has_result ops.Rem a b =
    has_remainder (common_of a b) (left_of a b) (right_of a b) (converted_in_range (common_of a b) a.num)
has_result ops.Shl a b = has_shifted_left (promoted a.kind) (promoted_num a) (promoted_num b)
has_result ops.Shr a b =
    has_shifted_right (promoted a.kind) (promoted_num a) (promoted_num b) (converted_in_range (promoted a.kind) a.num)
has_result ops.And a b = has_on_bits bit_and (common_of a b) (left_of a b) (right_of a b)
has_result ops.Or a b = has_on_bits bit_or (common_of a b) (left_of a b) (right_of a b)
has_result ops.Xor a b = has_on_bits bit_xor (common_of a b) (left_of a b) (right_of a b)
has_result ops.Eq a b = has_truth (int_eq (left_of a b) (right_of a b))
has_result ops.Ne a b = has_truth (not (int_eq (left_of a b) (right_of a b)))
has_result ops.Lt a b = has_truth (int_lt (left_of a b) (right_of a b))
has_result ops.Le a b = has_truth (int_le (left_of a b) (right_of a b))
has_result ops.Gt a b = has_truth (int_lt (right_of a b) (left_of a b))
has_result ops.Ge a b = has_truth (int_le (right_of a b) (left_of a b))

has_result_one : (op : UnOp) (a : Scalar) → Has (result_kind_one op a.kind) (applied_one op a)
unfolding applied_one
has_result_one unary.Plus a = (refl, converted_in_range (promoted a.kind) a.num)
has_result_one unary.Minus a = has_fitted (promoted a.kind) (neg_ℤ (promoted_num a))
has_result_one unary.Not a = has_truth (int_eq (converted_num kinds.Bool a.num) (pos 0))
has_result_one unary.Flip a = has_flipped (promoted a.kind) (promoted_num a)

has_kind : (k : Kind) (r : Result Scalar Undefined) → Has k r → IfOk r (λ v. v.kind ≡ k)
has_kind k (Ok v) h = h.0
has_kind k (Err e) h = tt

has_range : (k : Kind) (r : Result Scalar Undefined) → Has k r → IfOk r (λ v. InRange v.kind v.num)
has_range k (Ok v) h = let P : Kind → Type 0 = λ j. InRange j v.num in subst P (sym h.0) h.1
has_range k (Err e) h = tt

pub kind_of_result : (op : BinOp) (a b : Scalar) → IfOk (applied op a b) (λ r. r.kind ≡ result_kind op a.kind b.kind)
kind_of_result op a b = has_kind (result_kind op a.kind b.kind) (applied op a b) (has_result op a b)

pub range_of_result : (op : BinOp) (a b : Scalar) → IfOk (applied op a b) (λ r. InRange r.kind r.num)
range_of_result op a b = has_range (result_kind op a.kind b.kind) (applied op a b) (has_result op a b)

pub kind_of_result_one : (op : UnOp) (a : Scalar) → IfOk (applied_one op a) (λ r. r.kind ≡ result_kind_one op a.kind)
kind_of_result_one op a = has_kind (result_kind_one op a.kind) (applied_one op a) (has_result_one op a)

pub range_of_result_one : (op : UnOp) (a : Scalar) → IfOk (applied_one op a) (λ r. InRange r.kind r.num)
range_of_result_one op a = has_range (result_kind_one op a.kind) (applied_one op a) (has_result_one op a)
