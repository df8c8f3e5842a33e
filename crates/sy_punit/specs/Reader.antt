-- Readers of whole sources.
use Rattle.std.specs.Prelude.{ℕ, zero, suc, Bool, true, false, ◌&&◌, ◌||◌, not, if◌then◌else◌, nat_lt, List, [], ◌∷◌, ◌++◌, length, Option, Some, None, codes}
use Rattle.std.specs.List.{list_any}
use Rattle.sy_lex.specs.declared.Row.TheVariants as row
use Rattle.sy_lex.specs.declared.Token.{Token}
use Rattle.sy_note.specs.declared.Spot.{Spot}
use Rattle.sy_tree.specs.declared.parts.Brackets.TheVariants as brackets
use Rattle.sy_tree.specs.declared.parts.ConstSpecifier.{ConstSpecifier}
use Rattle.sy_tree.specs.declared.parts.ConstSpecifier.TheVariants as const
use Rattle.sy_tree.specs.declared.parts.Lexeme.{Lexeme}
use Rattle.sy_tree.specs.declared.parts.ObjectType.{ObjectType}
use Rattle.sy_tree.specs.declared.parts.ObjectType.TheVariants as object
use Rattle.sy_tree.specs.declared.parts.Parameter.{Parameter}
use Rattle.sy_tree.specs.declared.parts.Parameter.TheVariants as parameter
use Rattle.sy_tree.specs.declared.parts.ReferenceType.{ReferenceType}
use Rattle.sy_tree.specs.declared.parts.ReferenceType.TheVariants as reference
use Rattle.sy_tree.specs.declared.parts.ReturnType.{ReturnType}
use Rattle.sy_tree.specs.declared.parts.ReturnType.TheVariants as returned
use Rattle.sy_tree.specs.declared.tree.Block.{Block}
use Rattle.sy_tree.specs.declared.tree.Constant.{Constant}
use Rattle.sy_tree.specs.declared.tree.Declarator.{Declarator}
use Rattle.sy_tree.specs.declared.tree.Declarator.TheVariants as declarator
use Rattle.sy_tree.specs.declared.tree.Expr.{Expr}
use Rattle.sy_tree.specs.declared.tree.FileItem.{FileItem}
use Rattle.sy_tree.specs.declared.tree.FileItem.TheVariants as item
use Rattle.sy_tree.specs.declared.tree.Function.{Function}
use Rattle.sy_tree.specs.declared.tree.Unit.{Unit as SourceUnit}
use Rattle.sy_tree.specs.Units.{ends}
use Rattle.sy_reading.specs.Input.{Reader, WithHeight, ◌>>=◌, ◌>>◌, pure, refuse, sees, sees_row, sees_namespace, expect, advance, expect_row, eat, within, maybe_comma_list}
use Rattle.sy_reading.specs.Parts.{integral, type_specifier, object_type}
use Rattle.sy_reading.specs.Reading.{read_expr, read_block}

module _ {A : Type 0} (begins : List Token → Bool) (one : Reader A) where
  -- X*, as long as one begins; the number bounds the turns
  unfoldable pub each : ℕ → List A → Reader (List A)
  each zero xs = pure xs
  each (suc n) xs = λ ts. if begins ts then (do x ← one; each n (xs ++ x ∷ [])) ts else Some (xs, ts)

  abbrev pub all_each : Reader (List A)
  all_each = λ ts. each (length ts) [] ts

-- what was found, if it was
abbrev pub require : {A : Type 0} → Option A → Reader A
require None = refuse
require (Some a) = pure a

-- ---- parameters

-- the types of objects that a parameter may refer to
abbrev pub reference_of : ObjectType → Option ReferenceType
reference_of (object.Queue q) = Some (reference.Queue q)
reference_of (object.Device q) = Some (reference.Device q)
reference_of (object.Context q) = Some (reference.Context q)
reference_of (object.Buffer q (Some x)) = Some (reference.Buffer q x)
reference_of _ = None

-- rtype
unfoldable pub reference_type : Reader ReferenceType
reference_type = do
  t ← object_type
  require (reference_of t)

-- rtype "&" IDENT
unfoldable pub object_parameter : Reader (WithHeight Parameter)
object_parameter = do
  t ← reference_type
  expect row.Mark (codes "&")
  x ← expect_row row.Ident
  pure (parameter.Object t x, 0)

-- vint "&" IDENT
unfoldable pub vector_parameter : Bool → Reader (WithHeight Parameter)
vector_parameter fixed = do
  q ← within (codes "std") (codes "vector")
  expect row.Mark (codes "<")
  t ← integral
  expect row.Mark (codes ">")
  expect row.Mark (codes "&")
  x ← expect_row row.Ident
  pure (parameter.Vector fixed q t x, 0)

-- ktype IDENT
unfoldable pub integer_parameter : Bool → Reader (WithHeight Parameter)
integer_parameter fixed = do
  t ← integral
  x ← expect_row row.Ident
  pure (parameter.Integer fixed t x, 0)

unfoldable pub one_parameter : Reader (WithHeight Parameter)
one_parameter = do
  fixed ← eat row.Reserved (codes "const")
  λ ts. if sees_namespace (codes "std") ts then vector_parameter fixed ts
      else (if not fixed && sees_namespace (codes "sycl") ts then object_parameter ts else integer_parameter fixed ts)

-- ---- constants

-- an expression that leaves room for the constant above it, up to what ends it
unfoldable pub short_value : Reader Expr
short_value = do
  x ← read_expr 64 1
  λ ts. if nat_lt x.1 64 && ends ts then Some (x.0, ts) else None

-- "const" | "constexpr"
unfoldable pub fixed_specifier : Reader ConstSpecifier
fixed_specifier = λ ts. if sees row.Reserved (codes "const") ts then (do s ← expect row.Reserved (codes "const"); pure (const.Const s)) ts
    else (do s ← expect row.Reserved (codes "constexpr"); pure (const.Constexpr s)) ts

-- "{" expr "}"
unfoldable pub braced_value : Lexeme → Reader Declarator
braced_value x = do
  s ← expect row.Mark (codes "{")
  v ← short_value
  e ← expect row.Mark (codes "}")
  pure (declarator.Bracketed x brackets.Braces s v e)

-- "=" expr
unfoldable pub equal_value : Lexeme → Reader Declarator
equal_value x = do
  s ← expect row.Mark (codes "=")
  v ← short_value
  pure (declarator.Equal x s v)

unfoldable pub constant_declarator : Reader Declarator
constant_declarator = do
  x ← expect_row row.Ident
  λ ts. if sees row.Mark (codes "{") ts then braced_value x ts else equal_value x ts

unfoldable pub constant : Reader Constant
constant = do
  c ← fixed_specifier
  t ← type_specifier
  d ← constant_declarator
  expect row.Mark (codes ";")
  pure (record { specifier = c; of = t; declarator = d })

-- ---- functions

-- "void" | ktype
unfoldable pub return_type : Reader ReturnType
return_type = λ ts. if sees row.Reserved (codes "void") ts then (do s ← expect row.Reserved (codes "void"); pure (returned.Void s)) ts
    else (do t ← integral; pure (returned.Integer t)) ts

-- a block, of which the height is of no more use
unfoldable pub body : Reader Block
body = do
  b ← read_block 64
  pure b.0

unfoldable pub function : Reader Function
function = do
  t ← return_type
  x ← expect_row row.Ident
  expect row.Mark (codes "(")
  ps ← maybe_comma_list one_parameter (codes ")")
  expect row.Mark (codes ")")
  b ← body
  pure (record { returned = t; name = x; parameters = ps.0; body = b })

-- ---- units

-- "using" "namespace" "sycl" ";"
unfoldable pub using_line : Reader Spot
using_line = do
  s ← expect row.Reserved (codes "using")
  expect row.Reserved (codes "namespace")
  expect row.Ident (codes "sycl")
  expect row.Mark (codes ";")
  pure s

-- whether a constant begins
unfoldable pub begins_constant : List Token → Bool
begins_constant ts = sees row.Reserved (codes "const") ts || sees row.Reserved (codes "constexpr") ts

-- constant | function
unfoldable pub file_item : Reader FileItem
file_item = λ ts. if begins_constant ts then (do c ← constant; pure (item.Constant c)) ts else (do f ← function; pure (item.Function f)) ts

-- whether tokens are left
abbrev pub some_left : List Token → Bool
some_left [] = false
some_left (t ∷ ts) = true

abbrev pub is_function : FileItem → Bool
is_function (item.Constant c) = false
is_function (item.Function f) = true

-- INCLUDE*
abbrev pub include_lines : Reader (List Spot)
include_lines = all_each (sees_row row.Include) advance

-- using*
abbrev pub using_lines : Reader (List Spot)
using_lines = all_each (sees row.Reserved (codes "using")) using_line

-- (constant | function)*, up to the end
abbrev pub file_items : Reader (List FileItem)
file_items = all_each some_left file_item

-- a whole source, with one function at least
unfoldable pub read_unit : Reader SourceUnit
read_unit = do
  a ← include_lines
  b ← using_lines
  xs ← file_items
  λ ts. if list_any is_function xs && not (some_left ts) then Some (record { includes = a; usings = b; items = xs }, ts) else None
