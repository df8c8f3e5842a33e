-- Types, parameters, captures and template arguments.
use Rattle.std.specs.Prelude.{◌≡◌, List, ◌∷◌, IsTrue}
use Rattle.sy_lex.specs.declared.Row.TheVariants as row
use Rattle.sy_lex.specs.declared.Token.{Token}
use Rattle.sy_tree.specs.declared.parts.Capture.{Capture}
use Rattle.sy_tree.specs.declared.parts.Capture.TheVariants as capture
use Rattle.sy_tree.specs.declared.parts.ConstSpecifier.{ConstSpecifier}
use Rattle.sy_tree.specs.declared.parts.ConstSpecifier.TheVariants as const
use Rattle.sy_tree.specs.declared.parts.ElementArguments.{ElementArguments}
use Rattle.sy_tree.specs.declared.parts.IntegerType.{IntegerType}
use Rattle.sy_tree.specs.declared.parts.LambdaParameter.{LambdaParameter}
use Rattle.sy_tree.specs.declared.parts.LambdaParameterType.{LambdaParameterType}
use Rattle.sy_tree.specs.declared.parts.LambdaParameterType.TheVariants as lambda
use Rattle.sy_tree.specs.declared.parts.Lexeme.{Lexeme}
use Rattle.sy_tree.specs.declared.parts.ObjectType.{ObjectType}
use Rattle.sy_tree.specs.declared.parts.ObjectType.TheVariants as object
use Rattle.sy_tree.specs.declared.parts.Parameter.{Parameter}
use Rattle.sy_tree.specs.declared.parts.Parameter.TheVariants as parameter
use Rattle.sy_tree.specs.declared.parts.Qualified.{Qualified}
use Rattle.sy_tree.specs.declared.parts.ReferenceType.{ReferenceType}
use Rattle.sy_tree.specs.declared.parts.ReferenceType.TheVariants as reference
use Rattle.sy_tree.specs.declared.parts.ReturnType.{ReturnType}
use Rattle.sy_tree.specs.declared.parts.ReturnType.TheVariants as returned
use Rattle.sy_tree.specs.declared.parts.TemplateArgument.{TemplateArgument}
use Rattle.sy_tree.specs.declared.parts.TemplateArgument.TheVariants as template
use Rattle.sy_tree.specs.declared.parts.TypeSpecifier.{TypeSpecifier}
use Rattle.sy_tree.specs.declared.parts.TypeSpecifier.TheVariants as specifier
use Rattle.sy_tree.specs.Lists.{Rule, Maybe, Optional, MaybeListed}
use Rattle.sy_tree.specs.Words.{At, Sees, Lexed, Identifier, Sycl, Std, mark, keyword, spellings, SpelledAs, takes_template_argument}

-- ---- integer types

-- ktype
abbrev pub Integral : Rule IntegerType
Integral t from rest = SpelledAs (spellings t.kind) t.spot from rest

-- a ktype of one token
abbrev pub OneWordIntegral : Rule IntegerType
OneWordIntegral t from rest = Integral t from rest × ((word : Token) × (from ≡ word ∷ rest))

-- ktype | "auto"
abbrev pub TypeSpecified : Rule TypeSpecifier
TypeSpecified (specifier.Auto s) from rest = At (keyword "auto") s from rest
TypeSpecified (specifier.Integer t) from rest = Integral t from rest

-- "void" | ktype
abbrev pub Returned : Rule ReturnType
Returned (returned.Void s) from rest = At (keyword "void") s from rest
Returned (returned.Integer t) from rest = Integral t from rest

-- "const" | "constexpr"
abbrev pub ConstSpecified : Rule ConstSpecifier
ConstSpecified (const.Const s) from rest = At (keyword "const") s from rest
ConstSpecified (const.Constexpr s) from rest = At (keyword "constexpr") s from rest

-- ---- types of the library

-- "<" INT ">"
abbrev pub Dimensions : Rule Lexeme
Dimensions x from rest = (m k : List Token) × Sees (mark "<") from m × Lexed row.Int x m k × Sees (mark ">") k rest

-- "," INT
abbrev pub CommaDimensions : Rule Lexeme
CommaDimensions x from rest = (m : List Token) × Sees (mark ",") from m × Lexed row.Int x m rest

-- "<" ktype ("," INT)? ">"
abbrev pub Elements : Rule ElementArguments
Elements x from rest = (m k i : List Token) ×
    Sees (mark "<") from m × Integral x.element m k × Optional CommaDimensions x.dimensions k i × Sees (mark ">") i rest

-- otype
abbrev pub Object : Rule ObjectType
Object (object.Queue q) from rest = Sycl "queue" q from rest
Object (object.Device q) from rest = Sycl "device" q from rest
Object (object.Context q) from rest = Sycl "context" q from rest
Object (object.Event q) from rest = Sycl "event" q from rest
Object (object.Accessor q) from rest = Sycl "accessor" q from rest
Object (object.HostAccessor q) from rest = Sycl "host_accessor" q from rest
Object (object.LocalAccessor q x) from rest = (m : List Token) × Sycl "local_accessor" q from m × Elements x m rest
Object (object.Buffer q x) from rest = (m : List Token) × Sycl "buffer" q from m × Optional Elements x m rest
Object (object.Range q x) from rest = (m : List Token) × Sycl "range" q from m × Optional Dimensions x m rest
Object (object.Id q x) from rest = (m : List Token) × Sycl "id" q from m × Optional Dimensions x m rest
Object (object.NdRange q x) from rest = (m : List Token) × Sycl "nd_range" q from m × Optional Dimensions x m rest

-- rtype
abbrev pub Referenced : Rule ReferenceType
Referenced (reference.Queue q) from rest = Sycl "queue" q from rest
Referenced (reference.Device q) from rest = Sycl "device" q from rest
Referenced (reference.Context q) from rest = Sycl "context" q from rest
Referenced (reference.Buffer q x) from rest = (m : List Token) × Sycl "buffer" q from m × Elements x m rest

-- vint, a vector of integers
abbrev pub VectorOf : Qualified → Rule IntegerType
VectorOf q t from rest = (m k i : List Token) × Std "vector" q from m × Sees (mark "<") m k × Integral t k i × Sees (mark ">") i rest

-- ---- parameters

abbrev pub OneParameter : Rule Parameter
-- "const"? ktype IDENT
OneParameter (parameter.Integer fixed t x) from rest = (m k : List Token) ×
    Maybe (keyword "const") fixed from m × Integral t m k × Identifier x k rest
-- rtype "&" IDENT
OneParameter (parameter.Object t x) from rest = (m k : List Token) ×
    Referenced t from m × Sees (mark "&") m k × Identifier x k rest
-- "const"? vint "&" IDENT
OneParameter (parameter.Vector fixed q t x) from rest = (m k i : List Token) ×
    Maybe (keyword "const") fixed from m × VectorOf q t m k × Sees (mark "&") k i × Identifier x i rest

-- ---- lambdas

abbrev pub Captured : Rule Capture
-- "&"
Captured (capture.DefaultReference s) from rest = At (mark "&") s from rest
-- "="
Captured (capture.DefaultCopy s) from rest = At (mark "=") s from rest
-- "&" IDENT
Captured (capture.Reference s x) from rest = (m : List Token) × At (mark "&") s from m × Identifier x m rest
-- IDENT
Captured (capture.Copy x) from rest = Identifier x from rest

abbrev pub LambdaParameterTyped : Rule LambdaParameterType
LambdaParameterTyped (lambda.Handler q) from rest = Sycl "handler" q from rest
LambdaParameterTyped (lambda.Auto s) from rest = At (keyword "auto") s from rest
LambdaParameterTyped (lambda.Id q x) from rest = (m : List Token) × Sycl "id" q from m × Dimensions x m rest
LambdaParameterTyped (lambda.Item q x) from rest = (m : List Token) × Sycl "item" q from m × Dimensions x m rest
LambdaParameterTyped (lambda.NdItem q x) from rest = (m : List Token) × Sycl "nd_item" q from m × Dimensions x m rest

-- its type, "&"? IDENT
abbrev pub OneLambdaParameter : Rule LambdaParameter
OneLambdaParameter p from rest = (m k : List Token) ×
    LambdaParameterTyped p.of from m × Maybe (mark "&") p.by_reference m k × Identifier p.name k rest

-- "(" list(lparam)? ")"
abbrev pub LambdaParameters : Rule (List LambdaParameter)
LambdaParameters ps from rest = (m k : List Token) ×
    Sees (mark "(") from m × MaybeListed OneLambdaParameter ps m k × Sees (mark ")") k rest

-- ---- template arguments of members

abbrev pub OneTemplateArgument : Rule TemplateArgument
-- "class"? IDENT
OneTemplateArgument (template.Kernel is_class x) from rest = (m : List Token) × Maybe (keyword "class") is_class from m × Identifier x m rest
-- T(info) "::" IDENT "::" IDENT
OneTemplateArgument (template.Information q x y) from rest = (m k i j : List Token) ×
    Sycl "info" q from m × Sees (mark "::") m k × Identifier x k i × Sees (mark "::") i j × Identifier y j rest

-- "<" .. ">", only after a member that takes it
abbrev pub TemplateArguments : Lexeme → Rule TemplateArgument
TemplateArguments member x from rest = IsTrue (takes_template_argument member.text) ×
    ((m k : List Token) × Sees (mark "<") from m × OneTemplateArgument x m k × Sees (mark ">") k rest)
