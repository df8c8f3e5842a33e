-- Readers of the parts that hold no expression: types, captures, parameters and template arguments.
use Rattle.std.specs.Prelude.{ℕ, Bool, true, false, ◌&&◌, if◌then◌else◌, List, [], ◌∷◌, Option, Some, None, codes}
use Rattle.std.specs.Str.{bytes_eq}
use Rattle.sy_lex.specs.declared.Row.TheVariants as row
use Rattle.sy_lex.specs.declared.Token.{Token}
use Rattle.sy_note.specs.declared.Spot.{Spot}
use Rattle.sy_num.specs.declared.Kind.{Kind}
use Rattle.sy_num.specs.declared.Kind.TheVariants as kind
use Rattle.sy_tree.specs.declared.parts.Brackets.{Brackets}
use Rattle.sy_tree.specs.declared.parts.Brackets.TheVariants as brackets
use Rattle.sy_tree.specs.declared.parts.Capture.{Capture}
use Rattle.sy_tree.specs.declared.parts.Capture.TheVariants as capture
use Rattle.sy_tree.specs.declared.parts.ConstSpecifier.{ConstSpecifier}
use Rattle.sy_tree.specs.declared.parts.ConstSpecifier.TheVariants as const
use Rattle.sy_tree.specs.declared.parts.ElementArguments.{ElementArguments}
use Rattle.sy_tree.specs.declared.parts.IntegerType.{IntegerType}
use Rattle.sy_tree.specs.declared.parts.LambdaParameter.{LambdaParameter}
use Rattle.sy_tree.specs.declared.parts.LambdaParameterType.{LambdaParameterType}
use Rattle.sy_tree.specs.declared.parts.LambdaParameterType.TheVariants as parameter
use Rattle.sy_tree.specs.declared.parts.Lexeme.{Lexeme}
use Rattle.sy_tree.specs.declared.parts.ObjectType.{ObjectType}
use Rattle.sy_tree.specs.declared.parts.ObjectType.TheVariants as object
use Rattle.sy_tree.specs.declared.parts.Qualified.{Qualified}
use Rattle.sy_tree.specs.declared.parts.TemplateArgument.{TemplateArgument}
use Rattle.sy_tree.specs.declared.parts.TemplateArgument.TheVariants as template
use Rattle.sy_tree.specs.declared.parts.TypeSpecifier.{TypeSpecifier}
use Rattle.sy_tree.specs.declared.parts.TypeSpecifier.TheVariants as specifier
use Rattle.sy_tree.specs.Words.{takes_template_argument}
use Rattle.sy_reading.specs.Input.{Reader, WithHeight, ◌>>=◌, ◌>>◌, pure, refuse, sees, sees_row, sees_namespace, expect, expect_row, eat, expect_name, within, qualified_name, maybe_comma_list}
use Rattle.sy_reading.specs.Tables.{one_word_of, plain_object_of}

-- ---- brackets

-- "(" | "{"
unfoldable pub expect_open : Reader (Brackets × Spot)
expect_open = λ ts. if sees row.Mark (codes "(") ts then (do s ← expect row.Mark (codes "("); pure (brackets.Parentheses, s)) ts
    else (do s ← expect row.Mark (codes "{"); pure (brackets.Braces, s)) ts

abbrev pub closing_text : Brackets → List ℕ
closing_text brackets.Parentheses = codes ")"
closing_text brackets.Braces = codes "}"

-- the bracket that closes
unfoldable pub expect_close : Brackets → Reader Spot
expect_close b = expect row.Mark (closing_text b)

-- "{" "}" | "(" ")"
unfoldable pub empty_brackets : Reader (Brackets × Spot)
empty_brackets = do
  b ← expect_open
  e ← expect_close b.0
  pure (b.0, e)

-- ---- integer types

-- after the first word of several
abbrev pub eat_int : Kind → Reader Kind
eat_int k = do
  _ ← eat row.Reserved (codes "int")
  pure k

unfoldable pub long_kind : Kind → Kind → Reader Kind
long_kind once twice = do
  more ← eat row.Reserved (codes "long")
  eat_int (if more then twice else once)

unfoldable pub signed_kind : Reader Kind
signed_kind = do
  char ← eat row.Reserved (codes "char")
  if char then pure kind.SChar else eat_int kind.Int

unfoldable pub unsigned_kind : Reader Kind
unsigned_kind = do
  char ← eat row.Reserved (codes "char")
  if char then pure kind.UChar else (do
    long ← eat row.Reserved (codes "long")
    if long then long_kind kind.ULong kind.ULLong else (do
      short ← eat row.Reserved (codes "short")
      eat_int (if short then kind.UShort else kind.UInt)))

abbrev pub word_kind : Option Kind → Reader Kind
word_kind None = refuse
word_kind (Some k) = pure k

-- what the type is that begins with this word
unfoldable pub kind_by : List ℕ → Reader Kind
kind_by text = if bytes_eq text (codes "signed") then signed_kind
    else (if bytes_eq text (codes "unsigned") then unsigned_kind
    else (if bytes_eq text (codes "short") then eat_int kind.Short
    else (if bytes_eq text (codes "long") then long_kind kind.Long kind.LLong else word_kind (one_word_of text))))

-- ktype
unfoldable pub integral : Reader IntegerType
integral = do
  x ← expect_row row.Reserved
  k ← kind_by x.text
  pure (record { spot = x.spot; kind = k })

-- a ktype of one token
unfoldable pub one_word : Reader IntegerType
one_word = do
  x ← expect_row row.Reserved
  k ← word_kind (one_word_of x.text)
  pure (record { spot = x.spot; kind = k })

abbrev pub is_some : {A : Type 0} → Option A → Bool
is_some None = false
is_some (Some a) = true

-- whether a ktype begins
unfoldable pub sees_type : List Token → Bool
sees_type [] = false
sees_type (t ∷ ts) = sees_row row.Reserved (t ∷ ts) && is_some (one_word_of t.word.text)

-- ktype | "auto"
unfoldable pub type_specifier : Reader TypeSpecifier
type_specifier = λ ts. if sees row.Reserved (codes "auto") ts then (do s ← expect row.Reserved (codes "auto"); pure (specifier.Auto s)) ts
    else (do t ← integral; pure (specifier.Integer t)) ts

-- ("const" | "constexpr")?
unfoldable pub const_specifier : Reader (Option ConstSpecifier)
const_specifier = λ ts. if sees row.Reserved (codes "const") ts then (do s ← expect row.Reserved (codes "const"); pure (Some (const.Const s))) ts
    else (if sees row.Reserved (codes "constexpr") ts then (do s ← expect row.Reserved (codes "constexpr"); pure (Some (const.Constexpr s))) ts else Some (None, ts))

-- ---- types of the library

-- "<" INT ">"
unfoldable pub dimensions : Reader Lexeme
dimensions = do
  expect row.Mark (codes "<")
  x ← expect_row row.Int
  expect row.Mark (codes ">")
  pure x

unfoldable pub maybe_dimensions : Reader (Option Lexeme)
maybe_dimensions = λ ts. if sees row.Mark (codes "<") ts then (do x ← dimensions; pure (Some x)) ts else Some (None, ts)

-- ("," INT)?
unfoldable pub comma_dimensions : Reader (Option Lexeme)
comma_dimensions = do
  more ← eat row.Mark (codes ",")
  if more then (do x ← expect_row row.Int; pure (Some x)) else pure None

-- "<" ktype ("," INT)? ">"
unfoldable pub elements : Reader ElementArguments
elements = do
  expect row.Mark (codes "<")
  t ← integral
  d ← comma_dimensions
  expect row.Mark (codes ">")
  pure (record { element = t; dimensions = d })

unfoldable pub maybe_elements : Reader (Option ElementArguments)
maybe_elements = λ ts. if sees row.Mark (codes "<") ts then (do x ← elements; pure (Some x)) ts else Some (None, ts)

-- the types that may have template arguments, after the name
unfoldable pub template_object : Qualified → List ℕ → Reader ObjectType
template_object q text = if bytes_eq text (codes "buffer") then (do x ← maybe_elements; pure (object.Buffer q x))
    else (if bytes_eq text (codes "local_accessor") then (do x ← elements; pure (object.LocalAccessor q x))
    else (if bytes_eq text (codes "range") then (do x ← maybe_dimensions; pure (object.Range q x))
    else (if bytes_eq text (codes "id") then (do x ← maybe_dimensions; pure (object.Id q x))
    else (if bytes_eq text (codes "nd_range") then (do x ← maybe_dimensions; pure (object.NdRange q x)) else refuse))))

abbrev pub object_or : Qualified → List ℕ → Option ObjectType → Reader ObjectType
object_or q text None = template_object q text
object_or q text (Some t) = pure t

-- otype, after its name
unfoldable pub object_by : Qualified → List ℕ → Reader ObjectType
object_by q text = object_or q text (plain_object_of q text)

-- otype
unfoldable pub object_type : Reader ObjectType
object_type = do
  p ← expect_name (codes "sycl")
  object_by (qualified_name p) p.1.text

abbrev pub then_name : Option (ObjectType × List Token) → Bool
then_name None = false
then_name (Some p) = sees_row row.Ident p.1

-- whether an otype and an identifier come next
unfoldable pub declares_object : List Token → Bool
declares_object ts = then_name (object_type ts)

-- ---- lambdas

-- "&" IDENT | "&"
unfoldable pub reference_capture : Reader (WithHeight Capture)
reference_capture = do
  s ← expect row.Mark (codes "&")
  λ ts. if sees_row row.Ident ts then (do x ← expect_row row.Ident; pure (capture.Reference s x, 0)) ts else Some ((capture.DefaultReference s, 0), ts)

-- cap
unfoldable pub one_capture : Reader (WithHeight Capture)
one_capture = λ ts. if sees row.Mark (codes "&") ts then reference_capture ts
    else (if sees row.Mark (codes "=") ts then (do s ← expect row.Mark (codes "="); pure (capture.DefaultCopy s, 0)) ts
    else (do x ← expect_row row.Ident; pure (capture.Copy x, 0)) ts)

-- a parameter's type, after its name
unfoldable pub parameter_by : Qualified → List ℕ → Reader LambdaParameterType
parameter_by q text = if bytes_eq text (codes "handler") then pure (parameter.Handler q)
    else (if bytes_eq text (codes "id") then (do x ← dimensions; pure (parameter.Id q x))
    else (if bytes_eq text (codes "item") then (do x ← dimensions; pure (parameter.Item q x))
    else (if bytes_eq text (codes "nd_item") then (do x ← dimensions; pure (parameter.NdItem q x)) else refuse)))

unfoldable pub parameter_type : Reader LambdaParameterType
parameter_type = λ ts. if sees row.Reserved (codes "auto") ts then (do s ← expect row.Reserved (codes "auto"); pure (parameter.Auto s)) ts
    else (do p ← expect_name (codes "sycl"); parameter_by (qualified_name p) p.1.text) ts

-- lparam
unfoldable pub one_parameter : Reader (WithHeight LambdaParameter)
one_parameter = do
  t ← parameter_type
  r ← eat row.Mark (codes "&")
  x ← expect_row row.Ident
  pure (record { of = t; by_reference = r; name = x }, 0)

-- ("(" list(lparam)? ")")?
unfoldable pub maybe_parameters : Reader (Option (List LambdaParameter))
maybe_parameters = do
  some ← eat row.Mark (codes "(")
  if some then (do ps ← maybe_comma_list one_parameter (codes ")"); expect row.Mark (codes ")"); pure (Some ps.0)) else pure None

-- ---- template arguments of members

-- "class"? IDENT
unfoldable pub kernel_name : Reader TemplateArgument
kernel_name = do
  c ← eat row.Reserved (codes "class")
  x ← expect_row row.Ident
  pure (template.Kernel c x)

-- T(info) "::" IDENT "::" IDENT
unfoldable pub information : Reader TemplateArgument
information = do
  q ← within (codes "sycl") (codes "info")
  expect row.Mark (codes "::")
  x ← expect_row row.Ident
  expect row.Mark (codes "::")
  y ← expect_row row.Ident
  pure (template.Information q x y)

-- "<" .. ">", after a member that takes it
unfoldable pub template_argument : Reader TemplateArgument
template_argument = do
  expect row.Mark (codes "<")
  x ← (λ ts. if sees_namespace (codes "sycl") ts then information ts else kernel_name ts)
  expect row.Mark (codes ">")
  pure x

-- targ?
unfoldable pub maybe_template_argument : List ℕ → Reader (Option TemplateArgument)
maybe_template_argument member = λ ts. if takes_template_argument member && sees row.Mark (codes "<") ts then (do x ← template_argument; pure (Some x)) ts else Some (None, ts)
