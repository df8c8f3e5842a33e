-- A value as callers see it, and the conversions between kinds.
-- (C++17, "Integral conversions", "Boolean conversions")
use Rattle.std.specs.Prelude.{◌≡◌, ℕ, ◌*◌, ◌^◌, ℤ, pos, ◌+ℤ◌, ◌-ℤ◌, if◌then◌else◌, unsigned_abs}
use Rattle.std.specs.Int.{int_rem_euclid}
use Rattle.std.specs.Ordering.{int_eq}
use Rattle.sy_num.specs.declared.Kind.{Kind}
use Rattle.sy_num.specs.declared.Kind.TheVariants.{Bool}
use Rattle.sy_num.specs.Kinds.{bits, least}

-- a number with its kind
pub record Scalar : Type 0 where
  pub kind : Kind
  pub num : ℤ

abbrev pub scalar : Kind → ℤ → Scalar
scalar k z = record { kind = k; num = z }

-- 2 to the power N, where the kind has N bits
abbrev pub modulus : Kind → ℤ
modulus k = pos (2 ^ bits k)

-- z and y are equal modulo n: they differ by a multiple of n
pub record Congruent (n : ℕ) (z y : ℤ) : Type 0 where
  pub up : ℕ
  pub down : ℕ
  pub same : z +ℤ pos (up * n) ≡ y +ℤ pos (down * n)

-- the number that equals z modulo 2^N and is one of the 2^N numbers from the kind's least value on
unfoldable pub reduced : Kind → ℤ → ℤ
reduced k z = least k +ℤ int_rem_euclid (z -ℤ least k) (modulus k)

-- the number of kind k that z is converted to: to Bool 0 for 0 and 1 else, to any other kind modulo 2^N
unfoldable pub converted_num : Kind → ℤ → ℤ
converted_num Bool z = if int_eq z (pos 0) then pos 0 else pos 1
converted_num k z = reduced k z

abbrev pub converted : Kind → Scalar → Scalar
converted k v = scalar k (converted_num k v.num)

-- the N bits of z in two's complement, read as a number below 2^N
abbrev pub bits_of : Kind → ℤ → ℕ
bits_of k z = unsigned_abs (int_rem_euclid z (modulus k))
