-- The values of constant expressions: those that are built of literals, constants, operators and casts.
-- (C++17, [expr.const])
use Rattle.std.specs.Prelude.{ℕ, Bool, true, false, ◌||◌, if◌then◌else◌, List, ℤ, pos, Option, Some, None, Result, Ok, Err}
use Rattle.std.specs.Ordering.{int_eq}
use Rattle.sy_num.specs.declared.BinOp.{BinOp}
use Rattle.sy_num.specs.declared.Kind.{Kind}
use Rattle.sy_num.specs.declared.Kind.TheVariants as kind
use Rattle.sy_num.specs.declared.UnOp.{UnOp}
use Rattle.sy_num.specs.declared.Undefined.{Undefined}
use Rattle.sy_num.specs.Kinds.{is_in_range}
use Rattle.sy_num.specs.Operators.{applied, applied_one}
use Rattle.sy_num.specs.Scalars.{Scalar, scalar, converted_num}
use Rattle.sy_tree.specs.declared.operators.Operator.{Operator}
use Rattle.sy_tree.specs.declared.operators.Operator.TheVariants as operator
use Rattle.sy_rules.specs.declared.seen.Constant.{Constant}
use Rattle.sy_rules.specs.declared.seen.Constant.TheVariants as constant
use Rattle.sy_rules.specs.declared.seen.Seen.{Seen}
use Rattle.sy_rules.specs.Literals.{literal_kind, number_written}
use Rattle.sy_rules.specs.Seen.{kind_of}

abbrev pub value_or_none : Result Scalar Undefined → Constant
value_or_none (Ok v) = constant.Number v.num
value_or_none (Err u) = constant.Undefined

-- where one isn't known or varies, the whole does too; an operand without a value leaves it without one
abbrev pub of_both : (ℤ → ℤ → Constant) → Constant → Constant → Constant
of_both f constant.Unknown b = constant.Unknown
of_both f constant.Varying constant.Unknown = constant.Unknown
of_both f constant.Varying b = constant.Varying
of_both f a constant.Unknown = constant.Unknown
of_both f a constant.Varying = constant.Varying
of_both f constant.Undefined b = constant.Undefined
of_both f a constant.Undefined = constant.Undefined
of_both f (constant.Number x) (constant.Number y) = f x y

abbrev pub of_one : (ℤ → Constant) → Constant → Constant
of_one f (constant.Number x) = f x
of_one f c = c

-- a number that isn't in its kind's range has no value, and is converted only where some kind holds it
abbrev pub in_kind : Kind → (ℤ → Constant) → ℤ → Constant
in_kind k f z = if is_in_range k z then f z else constant.Undefined

abbrev pub in_any_kind : (ℤ → Constant) → ℤ → Constant
in_any_kind f z = if is_in_range kind.LLong z || is_in_range kind.ULLong z then f z else constant.Undefined

abbrev pub converted_to : Kind → Constant → Constant
converted_to k c = of_one (in_any_kind (λ z. constant.Number (converted_num k z))) c

abbrev pub converted_to_type : Option Kind → Constant → Constant
converted_to_type None c = constant.Unknown
converted_to_type (Some k) c = converted_to k c

-- the value of an integer literal, if a kind of its list holds it
abbrev pub literal_value : List ℕ → Constant
literal_value text = elim (literal_kind text) [ None ↦ constant.Undefined | Some k ↦ constant.Number (pos (number_written text)) ]

abbrev pub number_in : Constant → ℤ
number_in (constant.Number z) = z
number_in _ = pos 0

-- ---- operators

abbrev pub unary_of : UnOp → Option Kind → Constant → Constant
unary_of op None c = constant.Unknown
unary_of op (Some k) c = of_one (in_kind k (λ z. value_or_none (applied_one op (scalar k z)))) c

abbrev pub strict_in : BinOp → Kind → Kind → ℤ → ℤ → Constant
strict_in op j k x y = in_kind j (λ x. in_kind k (λ y. value_or_none (applied op (scalar j x) (scalar k y))) y) x

abbrev pub strict_of : BinOp → Option Kind → Option Kind → Constant → Constant → Constant
strict_of op (Some j) (Some k) a b = of_both (strict_in op j k) a b
strict_of op _ _ a b = constant.Unknown

abbrev pub truth_of : Constant → Constant
truth_of c = of_one (λ z. constant.Number (if int_eq z (pos 0) then pos 0 else pos 1)) c

-- whether the right side of `&&` or `||` is needed is told by the left one; both have to be constants
abbrev pub is_settled : Operator → ℤ → Bool
is_settled operator.LogicalAnd z = int_eq z (pos 0)
is_settled operator.LogicalOr z = if int_eq z (pos 0) then false else true
is_settled (operator.Strict op) z = false

abbrev pub right_if_needed : Operator → ℤ → Constant → Constant
right_if_needed op x constant.Unknown = constant.Unknown
right_if_needed op x constant.Varying = constant.Varying
right_if_needed op x b = if is_settled op x then truth_of (constant.Number x) else truth_of b

abbrev pub logical_of : Operator → Constant → Constant → Constant
logical_of op (constant.Number x) b = right_if_needed op x b
logical_of op a b = of_both (λ x y. constant.Undefined) a b

abbrev pub binary_of : Operator → Seen → Seen → Constant
binary_of (operator.Strict op) a b = strict_of op (kind_of a.what) (kind_of b.what) a.constant b.constant
binary_of op a b = logical_of op a.constant b.constant

-- one arm of `?:` is taken, and both have to be constants
abbrev pub chosen : ℤ → Constant → Constant → Constant
chosen z constant.Unknown c = constant.Unknown
chosen z constant.Varying constant.Unknown = constant.Unknown
chosen z constant.Varying c = constant.Varying
chosen z b constant.Unknown = constant.Unknown
chosen z b constant.Varying = constant.Varying
chosen z b c = if int_eq z (pos 0) then c else b

abbrev pub choice_of : Constant → Constant → Constant → Constant
choice_of (constant.Number z) b c = chosen z b c
choice_of a b c = of_both (λ x y. constant.Undefined) a (of_both (λ x y. constant.Undefined) b c)
