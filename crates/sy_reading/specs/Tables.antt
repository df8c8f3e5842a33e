-- What the texts of words stand for.
use Rattle.std.specs.Prelude.{ℕ, if◌then◌else◌, List, Option, Some, None, codes}
use Rattle.std.specs.Str.{bytes_eq}
use Rattle.sy_num.specs.declared.BinOp.TheVariants as bin
use Rattle.sy_num.specs.declared.Kind.{Kind}
use Rattle.sy_num.specs.declared.Kind.TheVariants as kind
use Rattle.sy_num.specs.declared.UnOp.{UnOp}
use Rattle.sy_num.specs.declared.UnOp.TheVariants as un
use Rattle.sy_tree.specs.declared.operators.AssignmentOperator.{AssignmentOperator}
use Rattle.sy_tree.specs.declared.operators.AssignmentOperator.TheVariants as asg
use Rattle.sy_tree.specs.declared.operators.Operator.{Operator}
use Rattle.sy_tree.specs.declared.operators.Operator.TheVariants as operator
use Rattle.sy_tree.specs.declared.parts.AccessTag.{AccessTag}
use Rattle.sy_tree.specs.declared.parts.AccessTag.TheVariants as tag
use Rattle.sy_tree.specs.declared.parts.FunctionObject.{FunctionObject}
use Rattle.sy_tree.specs.declared.parts.FunctionObject.TheVariants as fun
use Rattle.sy_tree.specs.declared.parts.LibraryFunction.{LibraryFunction}
use Rattle.sy_tree.specs.declared.parts.LibraryFunction.TheVariants as lib
use Rattle.sy_tree.specs.declared.parts.ObjectType.{ObjectType}
use Rattle.sy_tree.specs.declared.parts.ObjectType.TheVariants as object
use Rattle.sy_tree.specs.declared.parts.Qualified.{Qualified}
use Rattle.sy_tree.specs.declared.parts.Step.{Step}
use Rattle.sy_tree.specs.declared.parts.Step.TheVariants as step

abbrev pub or_else : {A : Type 0} → Option A → Option A → Option A
or_else (Some a) other = Some a
or_else None other = other

-- ---- operators

unfoldable pub unary_of : List ℕ → Option UnOp
unary_of text = if bytes_eq text (codes "+") then Some un.Plus
    else (if bytes_eq text (codes "-") then Some un.Minus
    else (if bytes_eq text (codes "!") then Some un.Not
    else (if bytes_eq text (codes "~") then Some un.Flip else None)))

unfoldable pub step_of : List ℕ → Option Step
step_of text = if bytes_eq text (codes "++") then Some step.Increment
    else (if bytes_eq text (codes "--") then Some step.Decrement else None)

unfoldable pub arithmetic_of : List ℕ → Option Operator
arithmetic_of text = if bytes_eq text (codes "+") then Some (operator.Strict bin.Add)
    else (if bytes_eq text (codes "-") then Some (operator.Strict bin.Sub)
    else (if bytes_eq text (codes "*") then Some (operator.Strict bin.Mul)
    else (if bytes_eq text (codes "/") then Some (operator.Strict bin.Div)
    else (if bytes_eq text (codes "%") then Some (operator.Strict bin.Rem) else None))))

unfoldable pub comparison_of : List ℕ → Option Operator
comparison_of text = if bytes_eq text (codes "==") then Some (operator.Strict bin.Eq)
    else (if bytes_eq text (codes "!=") then Some (operator.Strict bin.Ne)
    else (if bytes_eq text (codes "<") then Some (operator.Strict bin.Lt)
    else (if bytes_eq text (codes "<=") then Some (operator.Strict bin.Le)
    else (if bytes_eq text (codes ">") then Some (operator.Strict bin.Gt)
    else (if bytes_eq text (codes ">=") then Some (operator.Strict bin.Ge) else None)))))

unfoldable pub bitwise_of : List ℕ → Option Operator
bitwise_of text = if bytes_eq text (codes "|") then Some (operator.Strict bin.Or)
    else (if bytes_eq text (codes "^") then Some (operator.Strict bin.Xor)
    else (if bytes_eq text (codes "&") then Some (operator.Strict bin.And)
    else (if bytes_eq text (codes "<<") then Some (operator.Strict bin.Shl)
    else (if bytes_eq text (codes ">>") then Some (operator.Strict bin.Shr) else None))))

unfoldable pub logical_of : List ℕ → Option Operator
logical_of text = if bytes_eq text (codes "||") then Some operator.LogicalOr
    else (if bytes_eq text (codes "&&") then Some operator.LogicalAnd else None)

unfoldable pub operator_of : List ℕ → Option Operator
operator_of text = or_else (arithmetic_of text) (or_else (comparison_of text) (or_else (bitwise_of text) (logical_of text)))

unfoldable pub assignment_of : List ℕ → Option AssignmentOperator
assignment_of text = if bytes_eq text (codes "=") then Some asg.Assign
    else (if bytes_eq text (codes "+=") then Some asg.Add
    else (if bytes_eq text (codes "-=") then Some asg.Sub
    else (if bytes_eq text (codes "*=") then Some asg.Mul
    else (if bytes_eq text (codes "/=") then Some asg.Div
    else (if bytes_eq text (codes "%=") then Some asg.Rem
    else (if bytes_eq text (codes "&=") then Some asg.And
    else (if bytes_eq text (codes "|=") then Some asg.Or
    else (if bytes_eq text (codes "^=") then Some asg.Xor
    else (if bytes_eq text (codes "<<=") then Some asg.Shl
    else (if bytes_eq text (codes ">>=") then Some asg.Shr else None))))))))))

-- ---- integer types

-- a type that is one of the words of fixed width
unfoldable pub fixed_width_of : List ℕ → Option Kind
fixed_width_of text = if bytes_eq text (codes "int8_t") then Some kind.SChar
    else (if bytes_eq text (codes "uint8_t") then Some kind.UChar
    else (if bytes_eq text (codes "int16_t") then Some kind.Short
    else (if bytes_eq text (codes "uint16_t") then Some kind.UShort
    else (if bytes_eq text (codes "int32_t") then Some kind.Int
    else (if bytes_eq text (codes "uint32_t") then Some kind.UInt
    else (if bytes_eq text (codes "int64_t") then Some kind.Long
    else (if bytes_eq text (codes "uint64_t") then Some kind.ULong
    else (if bytes_eq text (codes "size_t") then Some kind.ULong else None))))))))

-- a type that is a keyword by itself
unfoldable pub keyword_of : List ℕ → Option Kind
keyword_of text = if bytes_eq text (codes "int") then Some kind.Int
    else (if bytes_eq text (codes "bool") then Some kind.Bool
    else (if bytes_eq text (codes "char") then Some kind.Char
    else (if bytes_eq text (codes "signed") then Some kind.Int
    else (if bytes_eq text (codes "unsigned") then Some kind.UInt
    else (if bytes_eq text (codes "short") then Some kind.Short
    else (if bytes_eq text (codes "long") then Some kind.Long else None))))))

-- a type of one word
unfoldable pub one_word_of : List ℕ → Option Kind
one_word_of text = or_else (keyword_of text) (fixed_width_of text)

-- ---- names of the library

unfoldable pub tag_of : List ℕ → Option AccessTag
tag_of text = if bytes_eq text (codes "read_only") then Some tag.ReadOnly
    else (if bytes_eq text (codes "write_only") then Some tag.WriteOnly
    else (if bytes_eq text (codes "read_write") then Some tag.ReadWrite
    else (if bytes_eq text (codes "no_init") then Some tag.NoInit else None)))

unfoldable pub object_of : List ℕ → Option FunctionObject
object_of text = if bytes_eq text (codes "plus") then Some fun.Plus
    else (if bytes_eq text (codes "multiplies") then Some fun.Multiplies
    else (if bytes_eq text (codes "minimum") then Some fun.Minimum
    else (if bytes_eq text (codes "maximum") then Some fun.Maximum
    else (if bytes_eq text (codes "bit_and") then Some fun.BitAnd
    else (if bytes_eq text (codes "bit_or") then Some fun.BitOr
    else (if bytes_eq text (codes "bit_xor") then Some fun.BitXor else None))))))

unfoldable pub function_of : List ℕ → Option LibraryFunction
function_of text = if bytes_eq text (codes "reduction") then Some lib.Reduction
    else (if bytes_eq text (codes "reduce_over_group") then Some lib.ReduceOverGroup
    else (if bytes_eq text (codes "exclusive_scan_over_group") then Some lib.ExclusiveScanOverGroup
    else (if bytes_eq text (codes "inclusive_scan_over_group") then Some lib.InclusiveScanOverGroup
    else (if bytes_eq text (codes "group_broadcast") then Some lib.GroupBroadcast else None))))

-- a type without template arguments
unfoldable pub plain_object_of : Qualified → List ℕ → Option ObjectType
plain_object_of q text = if bytes_eq text (codes "queue") then Some (object.Queue q)
    else (if bytes_eq text (codes "device") then Some (object.Device q)
    else (if bytes_eq text (codes "context") then Some (object.Context q)
    else (if bytes_eq text (codes "event") then Some (object.Event q)
    else (if bytes_eq text (codes "accessor") then Some (object.Accessor q)
    else (if bytes_eq text (codes "host_accessor") then Some (object.HostAccessor q) else None)))))
