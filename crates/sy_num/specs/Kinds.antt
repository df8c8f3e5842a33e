-- The integer types: their rank, width and range, and the conversions that an operator makes of its operands.
-- (C++17, "Fundamental types", "Integer conversion rank", "Integral promotions", "Expressions" paragraph 11)
use Rattle.std.specs.Prelude.{ℕ, ◌^◌, ◌-◌, Bool, true, false, ◌&&◌, if◌then◌else◌, nat_lt, nat_le, ℤ, pos, neg_ℤ, ◌≤ℤ◌, int_le}
use Rattle.sy_num.specs.declared.Kind.{Kind}
use Rattle.sy_num.specs.declared.Kind.TheVariants.{Bool as KBool, Char, SChar, UChar, Short, UShort, Int, UInt, Long, ULong, LLong, ULLong}

-- the integer conversion rank
abbrev pub rank : Kind → ℕ
rank KBool = 0
rank Char = 1
rank SChar = 1
rank UChar = 1
rank Short = 2
rank UShort = 2
rank Int = 3
rank UInt = 3
rank Long = 4
rank ULong = 4
rank LLong = 5
rank ULLong = 5

-- the width N in bits, the sign bit of a signed kind included
abbrev pub bits : Kind → ℕ
bits KBool = 1
bits Char = 8
bits SChar = 8
bits UChar = 8
bits Short = 16
bits UShort = 16
bits Int = 32
bits UInt = 32
bits Long = 64
bits ULong = 64
bits LLong = 64
bits ULLong = 64

-- plain `char` is signed
abbrev pub is_signed : Kind → Bool
is_signed KBool = false
is_signed Char = true
is_signed SChar = true
is_signed UChar = false
is_signed Short = true
is_signed UShort = false
is_signed Int = true
is_signed UInt = false
is_signed Long = true
is_signed ULong = false
is_signed LLong = true
is_signed ULLong = false

-- the unsigned kind of the same rank
abbrev pub unsigned_of : Kind → Kind
unsigned_of KBool = KBool
unsigned_of Char = UChar
unsigned_of SChar = UChar
unsigned_of UChar = UChar
unsigned_of Short = UShort
unsigned_of UShort = UShort
unsigned_of Int = UInt
unsigned_of UInt = UInt
unsigned_of Long = ULong
unsigned_of ULong = ULong
unsigned_of LLong = ULLong
unsigned_of ULLong = ULLong

-- the least and the greatest value: two's complement where the kind is signed
abbrev pub least : Kind → ℤ
least k = if is_signed k then neg_ℤ (pos (2 ^ (bits k - 1))) else pos 0

abbrev pub greatest : Kind → ℤ
greatest k = if is_signed k then pos (2 ^ (bits k - 1) - 1) else pos (2 ^ bits k - 1)

-- the kind can represent the number
pub record InRange (k : Kind) (z : ℤ) : Type 0 where
  pub low : least k ≤ℤ z
  pub high : z ≤ℤ greatest k

-- the same as a test
abbrev pub is_in_range : Kind → ℤ → Bool
is_in_range k z = int_le (least k) z && int_le z (greatest k)

-- k can represent all values of j
abbrev pub represents_all : Kind → Kind → Bool
represents_all k j = int_le (least k) (least j) && int_le (greatest j) (greatest k)

-- the integral promotion: a kind of lower rank than Int becomes Int where Int can represent all its values, else UInt
abbrev pub promoted : Kind → Kind
promoted k = if nat_lt (rank k) (rank Int) then (if represents_all Int k then Int else UInt) else k

-- both signed or both unsigned: the one of greater rank
abbrev pub greater_rank : Kind → Kind → Kind
greater_rank j k = if nat_lt (rank j) (rank k) then k else j

-- a signed kind s and an unsigned kind u
abbrev pub mixed : Kind → Kind → Kind
mixed s u = if nat_le (rank s) (rank u) then u else if represents_all s u then s else unsigned_of s

-- two promoted kinds, by whether each is signed
abbrev pub balanced : Bool → Bool → Kind → Kind → Kind
balanced true true j k = greater_rank j k
balanced false false j k = greater_rank j k
balanced true false s u = mixed s u
balanced false true u s = mixed s u

-- the usual arithmetic conversions: the kind to which both operands are converted
unfoldable pub common_kind : Kind → Kind → Kind
common_kind j k = balanced (is_signed (promoted j)) (is_signed (promoted k)) (promoted j) (promoted k)
