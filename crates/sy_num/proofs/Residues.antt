-- Residues modulo 2^N, in the two forms in which they are met: as a definition has them, and as the code computes them.
use Rattle.std.proofs.Common.{◌≡◌, refl, sym, ap, subst, ◌∙◌, ℕ, ◌+◌, ◌-◌, ◌*◌, ◌/◌, ◌%◌, ◌^◌, ◌<◌, ℤ, pos, negsuc, ◌+ℤ◌, ◌-ℤ◌, neg_ℤ, ◌≤ℤ◌, ◌<ℤ◌, to_z, of_z, FitsSigned, arith, rules, mul_assoc, unsigned_abs}
use Rattle.std.specs.Int.{w128, int_rem_euclid}
use Rattle.std.proofs.lemmas.Int.{ints, int_rem_euclid_is, to_z-of_z, of_z-to_z}
use Rattle.std.proofs.Math.IntN.{+ℤ_idl}
use borrow.Author.Differences.{up, down}
use Rattle.std.proofs.lemmas.Nat.{pow_pos, mod_below, mod-mul-add, div-add-mod'}
use Rattle.sy_num.specs.declared.Kind.{Kind}
use Rattle.sy_num.specs.declared.Kind.TheVariants.{Bool}
use Rattle.sy_num.specs.Kinds.{bits, least, greatest, InRange}
use Rattle.sy_num.specs.Scalars.{Congruent, modulus, reduced, bits_of}

-- a kind's range is 2^N numbers, from at most 0 to at least 0
pub record Spans (k : Kind) : Type 0 where
  pub low : least k ≤ℤ pos 0
  pub high : pos 0 ≤ℤ greatest k
  pub all : greatest k +ℤ pos 1 ≡ least k +ℤ pos (2 ^ bits k)

pub spans : (k : Kind) → Spans k
spans Bool = record { low = omega (arith, ints); high = omega (arith, ints); all = refl }
spans _ = record { low = omega (arith, ints); high = omega (arith, ints); all = refl }

-- every kind's numbers are from -2^63 to 2^64 - 1
pub record IsSmall (z : ℤ) : Type 0 where
  pub low : neg_ℤ (pos (2 ^ 63)) ≤ℤ z
  pub high : z ≤ℤ pos (2 ^ 64 - 1)

pub InRange-small : (k : Kind) (z : ℤ) → InRange k z → IsSmall z
InRange-small Bool z r = record { low = omega (arith, ints, r.low); high = omega (arith, ints, r.high) }
InRange-small _ z r = record { low = omega (arith, ints, r.low); high = omega (arith, ints, r.high) }

-- so the code's numbers hold them
pub InRange-fits : (k : Kind) (z : ℤ) → InRange k z → FitsSigned w128 z
InRange-fits k z r = let s : IsSmall z = InRange-small k z r in omega (arith, ints, s.low, s.high)

-- and give them back from their bits
pub kept : (k : Kind) (z : ℤ) → InRange k z → to_z w128 (of_z w128 z) ≡ z
kept k z r = to_z-of_z w128 z (InRange-fits k z r)

-- a remainder is from 0 to n - 1, and congruent to the number
pub record IsResidue (n : ℕ) (z r : ℤ) : Type 0 where
  pub low : pos 0 ≤ℤ r
  pub high : (r +ℤ pos 1) ≤ℤ pos n
  pub same : Congruent n z r

pub rem_is_residue : (n : ℕ) (z : ℤ) → 0 < n → IsResidue n z (int_rem_euclid z (pos n))
rem_is_residue n (pos a) p =
    let below : a % n < n = mod_below a n p in
    let whole : a / n * n + a % n ≡ a = div-add-mod' a n in
    record {
      low = omega (arith, ints);
      high = omega (arith, ints);
      same = record { up = 0; down = a / n; same = omega (arith, ints) };
    }
rem_is_residue n (negsuc a) p =
    let below : a % n < n = mod_below a n p in
    let whole : a / n * n + a % n ≡ a = div-add-mod' a n in
    record {
      low = omega (arith, ints);
      high = omega (arith, ints);
      same = record { up = a / n + 1; down = 0; same = omega (arith, ints) };
    }

-- what lies from `low` up to without `low + n` is the one such number that is congruent to z
only_residue :
    (n : ℕ) (z y low : ℤ) → 0 < n → low ≤ℤ y → (y +ℤ pos 1) ≤ℤ (low +ℤ pos n) → Congruent n z y →
    low +ℤ int_rem_euclid (z -ℤ low) (pos n) ≡ y
only_residue n z y low p from to c = from_distance (distance low y from)
  where
    distance : (a b : ℤ) → a ≤ℤ b → (d : ℕ) × (b ≡ a +ℤ pos d)
    distance a b h = (up b + down a - (up a + down b), omega (arith, ints))

    from_distance : (d : ℕ) × (y ≡ low +ℤ pos d) → low +ℤ int_rem_euclid (z -ℤ low) (pos n) ≡ y
    from_distance (d, e) =
        let small : d < n = omega (arith, ints, e, to) in
        let sum : (z -ℤ low) +ℤ pos (c.up * n) ≡ pos (c.down * n + d) = omega (arith, ints, e, c.same) in
        let same : int_rem_euclid (z -ℤ low) (pos n) ≡ pos ((c.down * n + d) % n) =
        int_rem_euclid_is (z -ℤ low) (pos n) n c.up (c.down * n + d) p refl sum in
        ap (λ r. low +ℤ r) (same ∙ ap pos (mod-mul-add c.down n d small)) ∙ sym e

-- the one number in range that is congruent to z
pub reduced_is : (k : Kind) (z y : ℤ) → InRange k y → Congruent (2 ^ bits k) z y → reduced k z ≡ y
unfolding reduced
reduced_is k z y r c =
    let s : Spans k = spans k in
    let from : least k ≤ℤ y = r.low in
    let to : (y +ℤ pos 1) ≤ℤ (least k +ℤ pos (2 ^ bits k)) = omega (arith, ints, r.high, s.all) in
    only_residue (2 ^ bits k) z y (least k) (pow_pos (bits k)) from to c

-- the residue itself, where the kind can represent it
pub reduced_to_residue :
    (k : Kind) (z r : ℤ) → r ≡ int_rem_euclid z (modulus k) → r ≤ℤ greatest k → InRange k r × (reduced k z ≡ r)
reduced_to_residue k z r e h =
    let s : Spans k = spans k in
    let is : IsResidue (2 ^ bits k) z r = subst (IsResidue (2 ^ bits k) z) (sym e) (rem_is_residue (2 ^ bits k) z (pow_pos (bits k))) in
    let fits : InRange k r = record { low = omega (arith, ints, s.low, is.low); high = h } in
    (fits, reduced_is k z r fits is.same)

-- else 2^N less
pub reduced_below_residue :
    (k : Kind) (z r : ℤ) → r ≡ int_rem_euclid z (modulus k) → greatest k <ℤ r →
    InRange k (r -ℤ modulus k) × (reduced k z ≡ r -ℤ modulus k)
reduced_below_residue k z r e h =
    let s : Spans k = spans k in
    let is : IsResidue (2 ^ bits k) z r = subst (IsResidue (2 ^ bits k) z) (sym e) (rem_is_residue (2 ^ bits k) z (pow_pos (bits k))) in
    let fits : InRange k (r -ℤ modulus k) = record {
      low = omega (arith, ints, s.all, h);
      high = omega (arith, ints, s.high, is.high);
    } in
    let c : Congruent (2 ^ bits k) z (r -ℤ modulus k) = record { up = is.same.up; down = is.same.down + 1; same = omega (arith, ints, is.same.same) } in
    (fits, reduced_is k z (r -ℤ modulus k) fits c)

-- the reduced number is in range and congruent
pub record IsReduced (k : Kind) (z y : ℤ) : Type 0 where
  pub in_range : InRange k y
  pub same : Congruent (2 ^ bits k) z y

pub reduced_is_reduced : (k : Kind) (z : ℤ) → IsReduced k z (reduced k z)
unfolding reduced
reduced_is_reduced k z =
    let s : Spans k = spans k in
    let r : IsResidue (2 ^ bits k) (z -ℤ least k) (int_rem_euclid (z -ℤ least k) (modulus k)) =
    rem_is_residue (2 ^ bits k) (z -ℤ least k) (pow_pos (bits k)) in
    record {
      in_range = record { low = omega (arith, ints, r.low); high = omega (arith, ints, r.high, s.all) };
      same = record { up = r.same.up; down = r.same.down; same = omega (arith, ints, r.same.same) };
    }

pub Congruent-sym : (n : ℕ) (x y : ℤ) → Congruent n x y → Congruent n y x
Congruent-sym n x y c = record { up = c.down; down = c.up; same = sym c.same }

pub Congruent-trans : (n : ℕ) (x y z : ℤ) → Congruent n x y → Congruent n y z → Congruent n x z
Congruent-trans n x y z c d =
    record { up = c.up + d.up; down = d.down + c.down; same = omega (arith, ints, c.same, d.same) }

-- modulo a divisor
pub Congruent-divisor : (m n : ℕ) (x y : ℤ) → Congruent (m * n) x y → Congruent n x y
Congruent-divisor m n x y c =
    record {
      up = c.up * m;
      down = c.down * m;
      same = simp mul_assoc c.same;
    }

-- numbers that are congruent have one reduced number and one remainder
pub reduced-congruent : (k : Kind) (x y : ℤ) → Congruent (2 ^ bits k) x y → reduced k x ≡ reduced k y
reduced-congruent k x y c =
    let r : IsReduced k y (reduced k y) = reduced_is_reduced k y in
    reduced_is k x (reduced k y) r.in_range (Congruent-trans (2 ^ bits k) x y (reduced k y) c r.same)

pub rem-congruent : (n : ℕ) (x y : ℤ) → 0 < n → Congruent n x y → int_rem_euclid x (pos n) ≡ int_rem_euclid y (pos n)
rem-congruent n x y p c =
    let r : IsResidue n y (int_rem_euclid y (pos n)) = rem_is_residue n y p in
    let to : (int_rem_euclid y (pos n) +ℤ pos 1) ≤ℤ (pos 0 +ℤ pos n) = omega (arith, ints, r.high) in
    let same : Congruent n x (int_rem_euclid y (pos n)) = Congruent-trans n x y (int_rem_euclid y (pos n)) c r.same in
    let from_zero : x -ℤ pos 0 ≡ x = omega (arith, ints) in
    ap (λ d. int_rem_euclid d (pos n)) (sym from_zero) ∙ sym (+ℤ_idl (int_rem_euclid (x -ℤ pos 0) (pos n)))
    ∙ only_residue n x (int_rem_euclid y (pos n)) (pos 0) p r.low to same

-- ---- numbers and the 128 bits that hold them

-- a kind's modulus divides 2^128
pub divides : (k : Kind) → 2 ^ (128 - bits k) * 2 ^ bits k ≡ 2 ^ 128
divides Bool = refl
divides _ = refl

-- a number is congruent to its bits, and what is read from bits to them
of_z-congruent : (z : ℤ) → FitsSigned w128 z → Congruent (2 ^ 128) z (pos (of_z w128 z))
of_z-congruent (pos n) f = record { up = 0; down = 0; same = refl }
of_z-congruent (negsuc n) f = record { up = 1; down = 0; same = omega (arith, ints, f.sfits) }

to_z-congruent : (u : ℕ) → u < 2 ^ 128 → Congruent (2 ^ 128) (to_z w128 u) (pos u)
to_z-congruent u h =
    let P : ℕ → Type 0 = λ v. Congruent (2 ^ 128) (to_z w128 u) (pos v) in
    subst P (of_z-to_z w128 u h) (of_z-congruent (to_z w128 u) (search rules))

-- the same modulo 2^N
pub of_z-same : (k : Kind) (z : ℤ) → FitsSigned w128 z → Congruent (2 ^ bits k) z (pos (of_z w128 z))
of_z-same k z f =
    let P : ℕ → Type 0 = λ m. Congruent m z (pos (of_z w128 z)) in
    Congruent-divisor (2 ^ (128 - bits k)) (2 ^ bits k) z (pos (of_z w128 z)) (subst P (sym (divides k)) (of_z-congruent z f))

pub to_z-same : (k : Kind) (u : ℕ) → u < 2 ^ 128 → Congruent (2 ^ bits k) (to_z w128 u) (pos u)
to_z-same k u h =
    let P : ℕ → Type 0 = λ m. Congruent m (to_z w128 u) (pos u) in
    Congruent-divisor (2 ^ (128 - bits k)) (2 ^ bits k) (to_z w128 u) (pos u) (subst P (sym (divides k)) (to_z-congruent u h))

-- what is left of a natural modulo 2^128
pub mod-same : (k : Kind) (n : ℕ) → Congruent (2 ^ bits k) (to_z w128 (n % 2 ^ 128)) (pos n)
mod-same k n =
    let below : n % 2 ^ 128 < 2 ^ 128 = mod_below n (2 ^ 128) (omega arith) in
    let c : Congruent (2 ^ 128) (pos (n % 2 ^ 128)) (pos n) =
    record { up = n / 2 ^ 128; down = 0; same = ap pos (omega (arith, div-add-mod' n (2 ^ 128))) } in
    let P : ℕ → Type 0 = λ m. Congruent m (pos (n % 2 ^ 128)) (pos n) in
    Congruent-trans (2 ^ bits k) (to_z w128 (n % 2 ^ 128)) (pos (n % 2 ^ 128)) (pos n)
    (to_z-same k (n % 2 ^ 128) below)
    (Congruent-divisor (2 ^ (128 - bits k)) (2 ^ bits k) (pos (n % 2 ^ 128)) (pos n) (subst P (sym (divides k)) c))

-- the low N of the 128 bits are the number's bits
pub low_bits_are : (k : Kind) (z : ℤ) → FitsSigned w128 z → of_z w128 z % 2 ^ bits k ≡ bits_of k z
low_bits_are k z f = ap unsigned_abs (sym (rem-congruent (2 ^ bits k) z (pos (of_z w128 z)) (pow_pos (bits k)) (of_z-same k z f)))
