-- Whole sources, and the runs of tokens that are an expression or a block.
use Rattle.std.specs.Prelude.{◌≡◌, ℕ, ◌≤◌, Bool, true, false, List, [], ◌∷◌, length, drop, codes}
use Rattle.sy_lex.specs.declared.Row.TheVariants as row
use Rattle.sy_lex.specs.declared.Token.{Token}
use Rattle.sy_lex.specs.declared.Word.{Word}
use Rattle.sy_note.specs.declared.Spot.{Spot}
use Rattle.sy_tree.specs.declared.tree.Argument.TheOpen.{Declarator-F}
use Rattle.sy_tree.specs.declared.tree.Block.{Block}
use Rattle.sy_tree.specs.declared.tree.Constant.{Constant}
use Rattle.sy_tree.specs.declared.tree.Declarator.{out-Declarator}
use Rattle.sy_tree.specs.declared.tree.Expr.{Expr}
use Rattle.sy_tree.specs.declared.tree.FileItem.{FileItem}
use Rattle.sy_tree.specs.declared.tree.FileItem.TheVariants as item
use Rattle.sy_tree.specs.declared.tree.Function.{Function}
use Rattle.sy_tree.specs.declared.tree.Unit.{Unit as SourceUnit}
use Rattle.sy_tree.specs.declared.parts.Brackets.TheVariants as brackets
use Rattle.sy_tree.specs.Declarations.{OneDeclarator}
use Rattle.sy_tree.specs.Expressions.{an_expr, a_block}
use Rattle.sy_tree.specs.Grammar.{Derives, max_height}
use Rattle.sy_tree.specs.Layers.{DeclaratorLayer}
use Rattle.sy_tree.specs.Lists.{Rule, Each, MaybeListed}
use Rattle.sy_tree.specs.Qualification.{is_one_of, qualified}
use Rattle.sy_tree.specs.Types.{Returned, ConstSpecified, TypeSpecified, OneParameter}
use Rattle.sy_tree.specs.Words.{At, Sees, Identifier, mark, keyword, identifier}

-- ---- units

-- INCLUDE
abbrev pub Included : Rule Spot
Included s from rest = (text : List ℕ) × At (record { row = row.Include; text = text }) s from rest

-- "using" "namespace" "sycl" ";"
abbrev pub Using : Rule Spot
Using s from rest = (m k i : List Token) ×
    At (keyword "using") s from m × Sees (keyword "namespace") m k × Sees (identifier "sycl") k i × Sees (mark ";") i rest

-- "=" expr | "{" expr "}", of the ways to initialize an integer
abbrev pub IsConstantInitializer : DeclaratorLayer → Type 0
IsConstantInitializer (Declarator-F.Equal x s v) = Unit
IsConstantInitializer (Declarator-F.Bracketed x brackets.Braces s v e) = Unit
IsConstantInitializer _ = ⊥

-- ("const" | "constexpr") (ktype | "auto") IDENT ("=" expr | "{" expr "}") ";"
-- A constant is a node itself, so that less is left for its expression.
abbrev pub OneConstant : Rule Constant
OneConstant c from rest = (m k i : List Token) ×
    ConstSpecified c.specifier from m × TypeSpecified c.of m k × IsConstantInitializer (out-Declarator c.declarator) ×
    OneDeclarator (Derives 63) c.declarator k i × Sees (mark ";") i rest

-- ("void" | ktype) IDENT "(" list(param)? ")" block
abbrev pub OneFunction : Rule Function
OneFunction f from rest = (m k i j p : List Token) ×
    Returned f.returned from m × Identifier f.name m k × Sees (mark "(") k i × MaybeListed OneParameter f.parameters i j ×
    Sees (mark ")") j p × Derives max_height (a_block f.body) p rest

-- constant | function
abbrev pub OneItem : Rule FileItem
OneItem (item.Constant c) from rest = OneConstant c from rest
OneItem (item.Function f) from rest = OneFunction f from rest

-- constant* function (constant | function)*
abbrev pub FileItems : Rule (List FileItem)
FileItems [] from rest = ⊥
FileItems (item.Constant c ∷ more) from rest = (m : List Token) × OneConstant c from m × FileItems more m rest
FileItems (item.Function f ∷ more) from rest = (m : List Token) × OneFunction f from m × Each OneItem more m rest

-- INCLUDE* using* constant* function (constant | function)*
abbrev pub WholeUnit : Rule SourceUnit
WholeUnit u from rest = (m k : List Token) × Each Included u.includes from m × Each Using u.usings m k × FileItems u.items k rest

-- These tokens, once qualified, are that unit and nothing else.
abbrev pub IsUnit : List Token → SourceUnit → Type 0
IsUnit tokens u = WholeUnit u (qualified tokens) []

-- ---- runs

-- what may follow a whole expression: ) ] } , ; : or an assignment
abbrev pub enders : List (List ℕ)
enders = codes ")" ∷ codes "]" ∷ codes "}" ∷ codes "," ∷ codes ";" ∷ codes ":" ∷ codes "=" ∷ codes "+=" ∷ codes "-=" ∷ codes "*=" ∷ codes "/=" ∷ codes "%="
    ∷ codes "&=" ∷ codes "|=" ∷ codes "^=" ∷ codes "<<=" ∷ codes ">>=" ∷ []

abbrev pub ends_by : Word → Bool
ends_by w = is_one_of row.Mark enders w

abbrev pub ends : List Token → Bool
ends [] = false
ends (t ∷ ts) = ends_by t.word

-- The tokens from `at` up to `end` are that expression, and one follows that ends it.
pub record IsExpression (tokens : List Token) (at : ℕ) (x : Expr) (end : ℕ) : Type 0 where
  pub within : end ≤ length tokens
  pub derived : Derives max_height (an_expr 1 x) (drop at tokens) (drop end tokens)
  pub ended : ends (drop end tokens) ≡ true

-- The tokens from `at` up to `end` are that block.
pub record IsBlock (tokens : List Token) (at : ℕ) (b : Block) (end : ℕ) : Type 0 where
  pub within : end ≤ length tokens
  pub derived : Derives max_height (a_block b) (drop at tokens) (drop end tokens)
