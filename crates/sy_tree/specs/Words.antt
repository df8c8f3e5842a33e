-- What stands at the front of a list of tokens, and how operators and types are spelled.
use Prim.Native.String.{String}
use Rattle.std.specs.Prelude.{◌≡◌, ℕ, Bool, List, [], ◌∷◌, ◌⊎◌, codes}
use Rattle.std.specs.List.{list_any}
use Rattle.std.specs.Str.{bytes_eq}
use Rattle.sy_lex.specs.declared.Row.{Row}
use Rattle.sy_lex.specs.declared.Row.TheVariants as row
use Rattle.sy_lex.specs.declared.Token.{Token}
use Rattle.sy_lex.specs.declared.Word.{Word}
use Rattle.sy_note.specs.declared.Spot.{Spot}
use Rattle.sy_num.specs.declared.BinOp.{BinOp}
use Rattle.sy_num.specs.declared.BinOp.TheVariants as bin
use Rattle.sy_num.specs.declared.Kind.{Kind}
use Rattle.sy_num.specs.declared.Kind.TheVariants as kind
use Rattle.sy_num.specs.declared.UnOp.{UnOp}
use Rattle.sy_num.specs.declared.UnOp.TheVariants as un
use Rattle.sy_tree.specs.declared.operators.AssignmentOperator.{AssignmentOperator}
use Rattle.sy_tree.specs.declared.operators.AssignmentOperator.TheVariants as asg
use Rattle.sy_tree.specs.declared.operators.Operator.{Operator}
use Rattle.sy_tree.specs.declared.operators.Operator.TheVariants as operator
use Rattle.sy_tree.specs.declared.parts.AccessTag.{AccessTag}
use Rattle.sy_tree.specs.declared.parts.AccessTag.TheVariants as tag
use Rattle.sy_tree.specs.declared.parts.Brackets.{Brackets}
use Rattle.sy_tree.specs.declared.parts.Brackets.TheVariants as brackets
use Rattle.sy_tree.specs.declared.parts.FunctionObject.{FunctionObject}
use Rattle.sy_tree.specs.declared.parts.FunctionObject.TheVariants as fun
use Rattle.sy_tree.specs.declared.parts.LibraryFunction.{LibraryFunction}
use Rattle.sy_tree.specs.declared.parts.LibraryFunction.TheVariants as lib
use Rattle.sy_tree.specs.declared.parts.Lexeme.{Lexeme}
use Rattle.sy_tree.specs.declared.parts.Qualified.{Qualified}
use Rattle.sy_tree.specs.declared.parts.Step.{Step}
use Rattle.sy_tree.specs.declared.parts.Step.TheVariants as step

-- ---- words. What they are is seen only where it is asked for, so that a rule stays short.

unfoldable pub mark : String → Word
mark text = record { row = row.Mark; text = codes text }

unfoldable pub keyword : String → Word
keyword text = record { row = row.Reserved; text = codes text }

unfoldable pub identifier : String → Word
identifier text = record { row = row.Ident; text = codes text }

-- ---- where they stand

-- `from` begins with this word, at this place, and `rest` follows it
abbrev pub At : Word → Spot → List Token → List Token → Type 0
At w s from rest = (a b : ℕ) × (from ≡ record { word = w; from = a; to = b; spot = s } ∷ rest)

-- the same at any place
abbrev pub Sees : Word → List Token → List Token → Type 0
Sees w from rest = (s : Spot) × At w s from rest

-- a token of that row, as it is written
abbrev pub Lexed : Row → Lexeme → List Token → List Token → Type 0
Lexed r x from rest = At (record { row = r; text = x.text }) x.spot from rest

abbrev pub Identifier : Lexeme → List Token → List Token → Type 0
Identifier x from rest = Lexed row.Ident x from rest

-- a name of a namespace: the namespace, `::` and the name
abbrev pub Within : String → String → Qualified → List Token → List Token → Type 0
Within space text q from rest = (m k : List Token) ×
    At (identifier space) q.namespace from m × Sees (mark "::") m k × At (identifier text) q.name k rest

-- a name of the library of SYCL
abbrev pub Sycl : String → Qualified → List Token → List Token → Type 0
Sycl text q from rest = Within "sycl" text q from rest

-- a name of the library of C++
abbrev pub Std : String → Qualified → List Token → List Token → Type 0
Std text q from rest = Within "std" text q from rest

-- ---- operators

abbrev pub strict_spelling : BinOp → String
strict_spelling bin.Add = "+"
strict_spelling bin.Sub = "-"
strict_spelling bin.Mul = "*"
strict_spelling bin.Div = "/"
strict_spelling bin.Rem = "%"
strict_spelling bin.Shl = "<<"
strict_spelling bin.Shr = ">>"
strict_spelling bin.And = "&"
strict_spelling bin.Or = "|"
strict_spelling bin.Xor = "^"
strict_spelling bin.Eq = "=="
strict_spelling bin.Ne = "!="
strict_spelling bin.Lt = "<"
strict_spelling bin.Le = "<="
strict_spelling bin.Gt = ">"
strict_spelling bin.Ge = ">="

abbrev pub spelling : Operator → String
spelling (operator.Strict o) = strict_spelling o
spelling operator.LogicalAnd = "&&"
spelling operator.LogicalOr = "||"

abbrev pub strict_level : BinOp → ℕ
strict_level bin.Or = 4
strict_level bin.Xor = 5
strict_level bin.And = 6
strict_level bin.Eq = 7
strict_level bin.Ne = 7
strict_level bin.Lt = 8
strict_level bin.Le = 8
strict_level bin.Gt = 8
strict_level bin.Ge = 8
strict_level bin.Shl = 9
strict_level bin.Shr = 9
strict_level bin.Add = 10
strict_level bin.Sub = 10
strict_level bin.Mul = 11
strict_level bin.Div = 11
strict_level bin.Rem = 11

-- how tightly an operator binds its operands, from 2 for the loosest to 11
abbrev pub level : Operator → ℕ
level (operator.Strict o) = strict_level o
level operator.LogicalAnd = 3
level operator.LogicalOr = 2

abbrev pub unary_spelling : UnOp → String
unary_spelling un.Plus = "+"
unary_spelling un.Minus = "-"
unary_spelling un.Not = "!"
unary_spelling un.Flip = "~"

abbrev pub step_spelling : Step → String
step_spelling step.Increment = "++"
step_spelling step.Decrement = "--"

abbrev pub assignment_spelling : AssignmentOperator → String
assignment_spelling asg.Assign = "="
assignment_spelling asg.Add = "+="
assignment_spelling asg.Sub = "-="
assignment_spelling asg.Mul = "*="
assignment_spelling asg.Div = "/="
assignment_spelling asg.Rem = "%="
assignment_spelling asg.And = "&="
assignment_spelling asg.Or = "|="
assignment_spelling asg.Xor = "^="
assignment_spelling asg.Shl = "<<="
assignment_spelling asg.Shr = ">>="

abbrev pub opening : Brackets → String
opening brackets.Parentheses = "("
opening brackets.Braces = "{"

abbrev pub closing : Brackets → String
closing brackets.Parentheses = ")"
closing brackets.Braces = "}"

-- ---- names of the library

abbrev pub tag_spelling : AccessTag → String
tag_spelling tag.ReadOnly = "read_only"
tag_spelling tag.WriteOnly = "write_only"
tag_spelling tag.ReadWrite = "read_write"
tag_spelling tag.NoInit = "no_init"

abbrev pub object_spelling : FunctionObject → String
object_spelling fun.Plus = "plus"
object_spelling fun.Multiplies = "multiplies"
object_spelling fun.Minimum = "minimum"
object_spelling fun.Maximum = "maximum"
object_spelling fun.BitAnd = "bit_and"
object_spelling fun.BitOr = "bit_or"
object_spelling fun.BitXor = "bit_xor"

abbrev pub function_spelling : LibraryFunction → String
function_spelling lib.Reduction = "reduction"
function_spelling lib.ReduceOverGroup = "reduce_over_group"
function_spelling lib.ExclusiveScanOverGroup = "exclusive_scan_over_group"
function_spelling lib.InclusiveScanOverGroup = "inclusive_scan_over_group"
function_spelling lib.GroupBroadcast = "group_broadcast"

-- the members that take a template argument
abbrev pub takes_template_argument : List ℕ → Bool
takes_template_argument text =
    list_any (bytes_eq text) (codes "get_info" ∷ codes "create_sub_devices" ∷ codes "single_task" ∷ codes "parallel_for" ∷ [])

-- ---- integer types, [dcl.type.simple] and [cstdint]

-- the ways to spell an integer type
abbrev pub spellings : Kind → List (List String)
spellings kind.Bool = ("bool" ∷ []) ∷ []
spellings kind.Char = ("char" ∷ []) ∷ []
spellings kind.SChar = ("signed" ∷ "char" ∷ []) ∷ ("int8_t" ∷ []) ∷ []
spellings kind.UChar = ("unsigned" ∷ "char" ∷ []) ∷ ("uint8_t" ∷ []) ∷ []
spellings kind.Short = ("short" ∷ []) ∷ ("short" ∷ "int" ∷ []) ∷ ("int16_t" ∷ []) ∷ []
spellings kind.UShort = ("unsigned" ∷ "short" ∷ []) ∷ ("unsigned" ∷ "short" ∷ "int" ∷ []) ∷ ("uint16_t" ∷ []) ∷ []
spellings kind.Int = ("int" ∷ []) ∷ ("signed" ∷ []) ∷ ("signed" ∷ "int" ∷ []) ∷ ("int32_t" ∷ []) ∷ []
spellings kind.UInt = ("unsigned" ∷ []) ∷ ("unsigned" ∷ "int" ∷ []) ∷ ("uint32_t" ∷ []) ∷ []
spellings kind.Long = ("long" ∷ []) ∷ ("long" ∷ "int" ∷ []) ∷ ("int64_t" ∷ []) ∷ []
spellings kind.ULong = ("unsigned" ∷ "long" ∷ []) ∷ ("unsigned" ∷ "long" ∷ "int" ∷ []) ∷ ("size_t" ∷ []) ∷ ("uint64_t" ∷ []) ∷ []
spellings kind.LLong = ("long" ∷ "long" ∷ []) ∷ ("long" ∷ "long" ∷ "int" ∷ []) ∷ []
spellings kind.ULLong = ("unsigned" ∷ "long" ∷ "long" ∷ []) ∷ ("unsigned" ∷ "long" ∷ "long" ∷ "int" ∷ []) ∷ []

-- these reserved words, the first of them at that place
abbrev pub Spelled : List String → Spot → List Token → List Token → Type 0
Spelled [] s from rest = ⊥
Spelled (w ∷ []) s from rest = At (keyword w) s from rest
Spelled (w ∷ v ∷ more) s from rest = (m : List Token) × (t : Spot) × At (keyword w) s from m × Spelled (v ∷ more) t m rest

-- one of these ways to spell
abbrev pub SpelledAs : List (List String) → Spot → List Token → List Token → Type 0
SpelledAs [] s from rest = ⊥
SpelledAs (words ∷ others) s from rest = Spelled words s from rest ⊎ SpelledAs others s from rest
