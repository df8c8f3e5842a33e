-- How a reduction and a group function take numbers together.
-- (SYCL 2020, "Function objects", "Reduction variables"; that the order is that of linear ids is own)
use Rattle.std.specs.Prelude.{ℤ, pos, neg_ℤ, int_le, if◌then◌else◌, Result, Ok, Err}
use Rattle.sy_num.specs.declared.Kind.{Kind}
use Rattle.sy_num.specs.declared.BinOp.TheVariants as operators
use Rattle.sy_num.specs.declared.Undefined.{Undefined}
use Rattle.sy_num.specs.Kinds.{least, greatest}
use Rattle.sy_num.specs.Operators.{applied}
use Rattle.sy_num.specs.Scalars.{Scalar, scalar, reduced, converted, converted_num}
use Rattle.sy_work.specs.declared.commands.RedOp.{RedOp}
use Rattle.sy_work.specs.declared.commands.RedOp.TheVariants.{Plus, Times, Min, Max, And, Or, Xor}

-- the number that changes no other: of `bit_and` it has all bits one
abbrev pub identity : RedOp → Kind → ℤ
identity Plus k = pos 0
identity Times k = pos 1
identity Min k = greatest k
identity Max k = least k
identity And k = converted_num k (neg_ℤ (pos 1))
identity Or k = pos 0
identity Xor k = pos 0

-- an operator's value, converted to the kind
abbrev pub to_kind : Kind → Result Scalar Undefined → Result Scalar Undefined
to_kind k (Ok s) = Ok (converted k s)
to_kind k (Err u) = Err u

-- a op x as a value of the kind
abbrev pub combined : RedOp → Kind → Scalar → Scalar → Result Scalar Undefined
combined Plus k a x = to_kind k (applied operators.Add a x)
combined Times k a x = to_kind k (applied operators.Mul a x)
combined Min k a x = Ok (if int_le a.num x.num then a else x)
combined Max k a x = Ok (if int_le x.num a.num then a else x)
combined And k a x = to_kind k (applied operators.And a x)
combined Or k a x = to_kind k (applied operators.Or a x)
combined Xor k a x = to_kind k (applied operators.Xor a x)

-- the same on numbers, each first taken modulo 2^N into the kind
abbrev pub step : RedOp → Kind → ℤ → ℤ → Result Scalar Undefined
step op k a x = combined op k (scalar k (reduced k a)) (scalar k (reduced k x))
