-- Declarations and their initializers.
use Rattle.std.specs.Prelude.{List, []}
use Rattle.sy_lex.specs.declared.Token.{Token}
use Rattle.sy_tree.specs.declared.tree.Argument.TheOpen.{Declaration-F, Declarator-F, Initializer-F}
use Rattle.sy_tree.specs.declared.tree.Argument.{Argument}
use Rattle.sy_tree.specs.declared.tree.Declarator.{Declarator, out-Declarator}
use Rattle.sy_tree.specs.declared.tree.Initializer.{Initializer, out-Initializer}
use Rattle.sy_tree.specs.declared.parts.Brackets.{Brackets}
use Rattle.sy_tree.specs.declared.parts.Brackets.TheVariants as brackets
use Rattle.sy_tree.specs.declared.parts.Qualified.{Qualified}
use Rattle.sy_tree.specs.Expressions.{Node, a_lambda, AnyExpr, BracketedArguments}
use Rattle.sy_tree.specs.Layers.{DeclarationLayer, DeclaratorLayer, InitializerLayer}
use Rattle.sy_tree.specs.Lists.{Rule, Optional, Listed}
use Rattle.sy_tree.specs.Types.{Object, TypeSpecified, ConstSpecified, VectorOf}
use Rattle.sy_tree.specs.Words.{At, Sees, Identifier, Std, Sycl, mark, opening, closing}

-- not "(" ")", which would declare a function
abbrev pub IsNoFunction : Brackets → List Argument → Type 0
IsNoFunction brackets.Parentheses [] = ⊥
IsNoFunction _ _ = Unit

module _ (Sub : Rule Node) where
  abbrev pub DeclaratorRule : DeclaratorLayer → List Token → List Token → Type 0
  -- IDENT
  DeclaratorRule (Declarator-F.Uninitialized x) from rest = Identifier x from rest
  -- IDENT "=" expr
  DeclaratorRule (Declarator-F.Equal x s v) from rest = (m k : List Token) × Identifier x from m × At (mark "=") s m k × AnyExpr Sub v k rest
  -- IDENT "{" expr "}" | IDENT "(" expr ")"
  DeclaratorRule (Declarator-F.Bracketed x b s v e) from rest = (m k i : List Token) ×
      Identifier x from m × At (mark (opening b)) s m k × AnyExpr Sub v k i × At (mark (closing b)) e i rest

  -- kdecl
  abbrev pub OneDeclarator : Rule Declarator
  OneDeclarator d from rest = DeclaratorRule (out-Declarator d) from rest

  abbrev pub InitializerRule : InitializerLayer → List Token → List Token → Type 0
  -- "=" expr
  InitializerRule (Initializer-F.Copy s x) from rest = (m : List Token) × At (mark "=") s from m × AnyExpr Sub x m rest
  -- "(" list(arg) ")" | "{" list(arg)? "}"
  InitializerRule (Initializer-F.Direct b s xs e) from rest = IsNoFunction b xs × BracketedArguments Sub b s xs e from rest

  -- init
  abbrev pub Initialized : Rule Initializer
  Initialized x from rest = InitializerRule (out-Initializer x) from rest

  abbrev pub DeclarationRule : DeclarationLayer → List Token → List Token → Type 0
  -- ("const" | "constexpr")? (ktype | "auto") list(kdecl) ";"
  DeclarationRule (Declaration-F.Integers c t ds e) from rest = (m k i : List Token) ×
      Optional ConstSpecified c from m × TypeSpecified t m k × Listed OneDeclarator ds k i × At (mark ";") e i rest
  -- vint IDENT init? ";"
  DeclarationRule (Declaration-F.Vector q t x v e) from rest = (m k i : List Token) ×
      VectorOf q t from m × Identifier x m k × Optional Initialized v k i × At (mark ";") e i rest
  -- V(vector) "<" T(device) ">" IDENT init? ";"
  DeclarationRule (Declaration-F.DeviceVector q x v e) from rest = (m k i j p u : List Token) × (d : Qualified) ×
      Std "vector" q from m × Sees (mark "<") m k × Sycl "device" d k i × Sees (mark ">") i j ×
      Identifier x j p × Optional Initialized v p u × At (mark ";") e u rest
  -- V(vector) "<" V(thread) ">" IDENT ";"
  DeclarationRule (Declaration-F.ThreadVector q x e) from rest = (m k i j p : List Token) × (t : Qualified) ×
      Std "vector" q from m × Sees (mark "<") m k × Std "thread" t k i × Sees (mark ">") i j ×
      Identifier x j p × At (mark ";") e p rest
  -- V(thread) IDENT ("(" lambda ")" | "{" lambda "}") ";"
  DeclarationRule (Declaration-F.Thread q x b l e) from rest = (m k i j p : List Token) ×
      Std "thread" q from m × Identifier x m k × Sees (mark (opening b)) k i × Sub (a_lambda l) i j ×
      Sees (mark (closing b)) j p × At (mark ";") e p rest
  -- otype IDENT init? ";"
  DeclarationRule (Declaration-F.Object t x v e) from rest = (m k i : List Token) ×
      Object t from m × Identifier x m k × Optional Initialized v k i × At (mark ";") e i rest
