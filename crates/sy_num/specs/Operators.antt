-- The value of each operator: computed on whole numbers, and then reduced or refused.
-- (C++17, "Expressions" paragraph 4, "Unary operators", "Multiplicative operators" to "Bitwise inclusive OR operator")
use Rattle.std.specs.Prelude.{ℕ, ◌^◌, ◌-◌, Bool, not, ◌&&◌, if◌then◌else◌, ℤ, pos, ◌+ℤ◌, ◌-ℤ◌, ◌*ℤ◌, neg_ℤ, int_le, int_lt, int_div, int_rem, unsigned_abs, bit_and, bit_or, bit_xor, Result, Ok, Err}
use Rattle.std.specs.Int.{int_div_euclid}
use Rattle.std.specs.Ordering.{int_eq}
use Rattle.sy_num.specs.declared.Kind.{Kind}
use Rattle.sy_num.specs.declared.Kind.TheVariants as kinds
use Rattle.sy_num.specs.declared.BinOp.{BinOp}
use Rattle.sy_num.specs.declared.BinOp.TheVariants.{Add, Sub, Mul, Div, Rem, Shl, Shr, And, Or, Xor, Eq, Ne, Lt, Le, Gt, Ge}
use Rattle.sy_num.specs.declared.UnOp.{UnOp}
use Rattle.sy_num.specs.declared.UnOp.TheVariants.{Plus, Minus, Not, Flip}
use Rattle.sy_num.specs.declared.Undefined.{Undefined}
use Rattle.sy_num.specs.declared.Undefined.TheVariants.{Overflow, ZeroDivisor, Shift}
use Rattle.sy_num.specs.Kinds.{bits, is_signed, is_in_range, promoted, common_kind}
use Rattle.sy_num.specs.Scalars.{Scalar, scalar, reduced, converted_num, bits_of}

-- the number as a value of kind k, where k can represent it
unfoldable pub represented : Kind → ℤ → Result Scalar Undefined
represented k z = if is_in_range k z then Ok (scalar k z) else Err Overflow

-- the same, but an unsigned kind takes the number modulo 2^N
unfoldable pub fitted : Kind → ℤ → Result Scalar Undefined
fitted k z = if is_signed k then represented k z else Ok (scalar k (reduced k z))

-- the quotient toward zero
unfoldable pub quotient : Kind → ℤ → ℤ → Result Scalar Undefined
quotient k x y = if int_eq y (pos 0) then Err ZeroDivisor else represented k (int_div x y)

-- the remainder, with the dividend's sign, where the quotient can be represented
unfoldable pub remainder : Kind → ℤ → ℤ → Result Scalar Undefined
remainder k x y =
    if int_eq y (pos 0)
    then Err ZeroDivisor
    else if is_in_range k (int_div x y) then Ok (scalar k (int_rem x y)) else Err Overflow

-- a shift's count is at least 0 and below the width of the left operand's promoted kind
abbrev pub is_count : Kind → ℤ → Bool
is_count k c = int_le (pos 0) c && int_lt c (pos (bits k))

-- x * 2^c modulo 2^N
unfoldable pub shifted_left : Kind → ℤ → ℤ → Result Scalar Undefined
shifted_left k x c =
    if is_count k c
    then (if int_lt x (pos 0) then Err Overflow else Ok (scalar k (reduced k (x *ℤ pos (2 ^ unsigned_abs c)))))
    else Err Shift

-- x / 2^c, rounded down
unfoldable pub shifted_right : Kind → ℤ → ℤ → Result Scalar Undefined
shifted_right k x c =
    if is_count k c then Ok (scalar k (int_div_euclid x (pos (2 ^ unsigned_abs c)))) else Err Shift

-- the value of kind k whose bits are those that f makes of the operands' bits
unfoldable pub on_bits : (ℕ → ℕ → ℕ) → Kind → ℤ → ℤ → Scalar
on_bits f k x y = scalar k (reduced k (pos (f (bits_of k x) (bits_of k y))))

-- each of the N bits inverted
unfoldable pub flipped : Kind → ℤ → Scalar
flipped k z = scalar k (reduced k (pos (2 ^ bits k - 1 - bits_of k z)))

-- what a comparison answers
abbrev pub truth : Bool → Scalar
truth b = scalar kinds.Bool (if b then pos 1 else pos 0)

-- the operands, converted to their common kind
abbrev pub common_of : Scalar → Scalar → Kind
common_of a b = common_kind a.kind b.kind

abbrev pub left_of : Scalar → Scalar → ℤ
left_of a b = converted_num (common_of a b) a.num

abbrev pub right_of : Scalar → Scalar → ℤ
right_of a b = converted_num (common_of a b) b.num

-- an operand, promoted by itself
abbrev pub promoted_num : Scalar → ℤ
promoted_num a = converted_num (promoted a.kind) a.num

-- the value of an operator with two operands, or why it has none
unfoldable pub applied : BinOp → Scalar → Scalar → Result Scalar Undefined
applied Add a b = fitted (common_of a b) (left_of a b +ℤ right_of a b)
applied Sub a b = fitted (common_of a b) (left_of a b -ℤ right_of a b)
applied Mul a b = fitted (common_of a b) (left_of a b *ℤ right_of a b)
applied Div a b = quotient (common_of a b) (left_of a b) (right_of a b)
applied Rem a b = remainder (common_of a b) (left_of a b) (right_of a b)
applied Shl a b = shifted_left (promoted a.kind) (promoted_num a) (promoted_num b)
applied Shr a b = shifted_right (promoted a.kind) (promoted_num a) (promoted_num b)
applied And a b = Ok (on_bits bit_and (common_of a b) (left_of a b) (right_of a b))
applied Or a b = Ok (on_bits bit_or (common_of a b) (left_of a b) (right_of a b))
applied Xor a b = Ok (on_bits bit_xor (common_of a b) (left_of a b) (right_of a b))
applied Eq a b = Ok (truth (int_eq (left_of a b) (right_of a b)))
applied Ne a b = Ok (truth (not (int_eq (left_of a b) (right_of a b))))
applied Lt a b = Ok (truth (int_lt (left_of a b) (right_of a b)))
applied Le a b = Ok (truth (int_le (left_of a b) (right_of a b)))
applied Gt a b = Ok (truth (int_lt (right_of a b) (left_of a b)))
applied Ge a b = Ok (truth (int_le (right_of a b) (left_of a b)))

-- the value of an operator with one operand, or why it has none
unfoldable pub applied_one : UnOp → Scalar → Result Scalar Undefined
applied_one Plus a = Ok (scalar (promoted a.kind) (promoted_num a))
applied_one Minus a = fitted (promoted a.kind) (neg_ℤ (promoted_num a))
applied_one Not a = Ok (truth (int_eq (converted_num kinds.Bool a.num) (pos 0)))
applied_one Flip a = Ok (flipped (promoted a.kind) (promoted_num a))

-- the kind of an operator's value, from the kinds of its operands
abbrev pub result_kind : BinOp → Kind → Kind → Kind
result_kind Add j k = common_kind j k
result_kind Sub j k = common_kind j k
result_kind Mul j k = common_kind j k
result_kind Div j k = common_kind j k
result_kind Rem j k = common_kind j k
result_kind Shl j k = promoted j
result_kind Shr j k = promoted j
result_kind And j k = common_kind j k
result_kind Or j k = common_kind j k
result_kind Xor j k = common_kind j k
result_kind Eq j k = kinds.Bool
result_kind Ne j k = kinds.Bool
result_kind Lt j k = kinds.Bool
result_kind Le j k = kinds.Bool
result_kind Gt j k = kinds.Bool
result_kind Ge j k = kinds.Bool

abbrev pub result_kind_one : UnOp → Kind → Kind
result_kind_one Plus k = promoted k
result_kind_one Minus k = promoted k
result_kind_one Not k = kinds.Bool
result_kind_one Flip k = promoted k
