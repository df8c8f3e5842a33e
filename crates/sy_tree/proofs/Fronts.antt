-- What follows a tree is the list without some of its first tokens.
use Rattle.std.proofs.Common.{◌≡◌, ℕ, ◌+◌, ◌≤◌, Bool, true, false, List, [], ◌∷◌, length, drop, Option, Some, None, refl, sym, ap, ◌∙◌, arith, length-drop, drop-drop, inl, inr}
use Prim.Native.String.{String}
use Rattle.sy_lex.specs.declared.Token.{Token}
use Rattle.sy_lex.specs.declared.Word.{Word}
use Rattle.sy_note.specs.declared.Spot.{Spot}
use Rattle.sy_tree.specs.declared.parts.Brackets.{Brackets}
use Rattle.sy_tree.specs.declared.parts.Capture.TheVariants as capture
use Rattle.sy_tree.specs.declared.parts.ConstSpecifier.TheVariants as const
use Rattle.sy_tree.specs.declared.parts.LambdaParameterType.TheVariants as lambda
use Rattle.sy_tree.specs.declared.parts.Lexeme.{Lexeme}
use Rattle.sy_tree.specs.declared.parts.ObjectType.TheVariants as object
use Rattle.sy_tree.specs.declared.parts.Qualified.{Qualified}
use Rattle.sy_tree.specs.declared.parts.TemplateArgument.TheVariants as template
use Rattle.sy_tree.specs.declared.parts.TypeSpecifier.TheVariants as specifier
use Rattle.sy_tree.specs.declared.tree.Argument.{Argument, out-Argument}
use Rattle.sy_tree.specs.declared.tree.Argument.TheOpen.{Argument-F, Declaration-F, Declarator-F, Expr-F, FullExpression-F, Initializer-F, Printed-F, Stmt-F}
use Rattle.sy_tree.specs.declared.tree.Block.{out-Block}
use Rattle.sy_tree.specs.declared.tree.Declaration.{out-Declaration}
use Rattle.sy_tree.specs.declared.tree.Declarator.{out-Declarator}
use Rattle.sy_tree.specs.declared.tree.Expr.{out-Expr}
use Rattle.sy_tree.specs.declared.tree.FullExpression.{out-FullExpression}
use Rattle.sy_tree.specs.declared.tree.Initializer.{out-Initializer}
use Rattle.sy_tree.specs.declared.tree.Lambda.{out-Lambda}
use Rattle.sy_tree.specs.declared.tree.Printed.{out-Printed}
use Rattle.sy_tree.specs.declared.tree.Stmt.{out-Stmt}
use Rattle.sy_tree.specs.Declarations.{DeclaratorRule, OneDeclarator, InitializerRule, Initialized, DeclarationRule}
use Rattle.sy_tree.specs.Expressions.{Node, an_expr, a_lambda, a_full, a_block, a_stmt, AnyExpr, InParentheses, ArgumentRule, OneArgument, BracketedArguments, ExprRule, LambdaRule}
use Rattle.sy_tree.specs.Grammar.{NodeRule, Passes}
use Rattle.sy_tree.specs.Layers.{ArgumentLayer, BlockLayer, DeclarationLayer, DeclaratorLayer, ExprLayer, FullExpressionLayer, InitializerLayer, LambdaLayer, PrintedLayer, StmtLayer}
use Rattle.sy_tree.specs.Lists.{Rule, Maybe, Optional, Each, OneOrMore, Listed, MaybeListed}
use Rattle.sy_tree.specs.Statements.{Substatement, AnyFull, BlockRule, FullRule, PrintedRule, OnePrinted, InitStatement, StmtRule}
use Rattle.sy_tree.specs.Types.{Integral, TypeSpecified, ConstSpecified, Dimensions, CommaDimensions, Elements, Object, VectorOf, Captured, LambdaParameterTyped, OneLambdaParameter, LambdaParameters, OneTemplateArgument, TemplateArguments}
use Rattle.sy_tree.specs.Words.{At, Sees, Spelled, SpelledAs, spellings, mark, keyword}

abbrev pub Takes : {A : Type 0} → Rule A → Type 0
Takes {A} P = (x : A) (from rest : List Token) → P x from rest → Passes 1 from rest

pub none : {from rest : List Token} → from ≡ rest → Passes 0 from rest
none {from} h = record { taken = 0; enough = omega arith; within = omega arith; is = sym h }

pub at_least : (n : ℕ) {m : ℕ} {from rest : List Token} → n ≤ m → Passes m from rest → Passes n from rest
at_least n le p = record { taken = p.taken; enough = omega (arith, p.enough); within = p.within; is = p.is }

infixl 10 ◌>>◌
pub ◌>>◌ : {n m : ℕ} {a b c : List Token} → Passes n a b → Passes m b c → Passes (n + m) a c
◌>>◌ {n} {m} {a} p q = record {
  taken = p.taken + q.taken;
  enough = omega (arith, p.enough, q.enough);
  within = omega (arith, q.within, p.within, ap length p.is, length-drop p.taken a);
  is = q.is ∙ ap (drop q.taken) p.is ∙ drop-drop q.taken p.taken a;
}

-- ---- words

pub token : {w : Word} {s : Spot} {from rest : List Token} → At w s from rest → Passes 1 from rest
token h = rw h.2 (record { taken = 1; enough = omega arith; within = omega arith; is = refl })

pub sees : {w : Word} {from rest : List Token} → Sees w from rest → Passes 1 from rest
sees h = token h.1

maybe : (w : Word) (b : Bool) {from rest : List Token} → Maybe w b from rest → Passes 0 from rest
maybe w true h = at_least 0 (omega arith) (sees h)
maybe w false h = none h

-- a namespace, `::` and a name
name : {u v w : Word} {s t : Spot} {from rest : List Token} → ((m k : List Token) × At u s from m × Sees v m k × At w t k rest) → Passes 1 from rest
name h = at_least 1 (omega arith) (token h.2 >> sees h.3 >> token h.4)

-- ---- parts

module _ {A : Type 0} (P : Rule A) (f : Takes P) where
  optional : (x : Option A) {from rest : List Token} → Optional P x from rest → Passes 0 from rest
  optional None h = none h
  optional (Some x) h = at_least 0 (omega arith) (f x _ _ h)

  each : (xs : List A) {from rest : List Token} → Each P xs from rest → Passes 0 from rest
  each [] h = none h
  each (x ∷ more) h = at_least 0 (omega arith) (f x _ _ h.1 >> each more h.2)

  one_or_more : (xs : List A) {from rest : List Token} → OneOrMore P xs from rest → Passes 0 from rest
  one_or_more [] h = absurd h
  one_or_more (x ∷ more) h = each (x ∷ more) h

  listed : (xs : List A) {from rest : List Token} → Listed P xs from rest → Passes 1 from rest
  listed [] h = absurd h
  listed (x ∷ []) h = f x _ _ h
  listed (x ∷ y ∷ more) h = at_least 1 (omega arith) (f x _ _ h.2 >> sees h.3 >> listed (y ∷ more) h.4)

  maybe_listed : (xs : List A) {from rest : List Token} → MaybeListed P xs from rest → Passes 0 from rest
  maybe_listed [] h = none h
  maybe_listed (x ∷ more) h = at_least 0 (omega arith) (listed (x ∷ more) h)

-- ---- types

spelled : (words : List String) (s : Spot) (from rest : List Token) → Spelled words s from rest → Passes 1 from rest
spelled [] s from rest h = absurd h
spelled (w ∷ []) s from rest h = token h
spelled (w ∷ v ∷ more) s from rest h = at_least 1 (omega arith) (token h.2 >> spelled (v ∷ more) h.1 h.0 rest h.3)

spelled_as : (ways : List (List String)) (s : Spot) (from rest : List Token) → SpelledAs ways s from rest → Passes 1 from rest
spelled_as [] s from rest h = absurd h
spelled_as (words ∷ others) s from rest (inl h) = spelled words s from rest h
spelled_as (words ∷ others) s from rest (inr h) = spelled_as others s from rest h

integral : Takes Integral
integral t from rest h = spelled_as (spellings t.kind) t.spot from rest h

type_specified : Takes TypeSpecified
type_specified (specifier.Auto s) from rest h = token h
type_specified (specifier.Integer t) from rest h = integral t from rest h

const_specified : Takes ConstSpecified
const_specified (const.Const s) from rest h = token h
const_specified (const.Constexpr s) from rest h = token h

dimensions : Takes Dimensions
dimensions x from rest h = at_least 1 (omega arith) (sees h.2 >> token h.3 >> sees h.4)

comma_dimensions : Takes CommaDimensions
comma_dimensions x from rest h = at_least 1 (omega arith) (sees h.1 >> token h.2)

elements : Takes Elements
elements x from rest h =
    at_least 1 (omega arith) (sees h.3 >> integral x.element h.0 h.1 h.4 >> optional _ comma_dimensions x.dimensions h.5 >> sees h.6)

object_type : Takes Object
object_type (object.Queue q) from rest h = name h
object_type (object.Device q) from rest h = name h
object_type (object.Context q) from rest h = name h
object_type (object.Event q) from rest h = name h
object_type (object.Accessor q) from rest h = name h
object_type (object.HostAccessor q) from rest h = name h
object_type (object.LocalAccessor q x) from rest h = at_least 1 (omega arith) (name h.1 >> elements x h.0 rest h.2)
object_type (object.Buffer q x) from rest h = at_least 1 (omega arith) (name h.1 >> optional _ elements x h.2)
object_type (object.Range q x) from rest h = at_least 1 (omega arith) (name h.1 >> optional _ dimensions x h.2)
object_type (object.Id q x) from rest h = at_least 1 (omega arith) (name h.1 >> optional _ dimensions x h.2)
object_type (object.NdRange q x) from rest h = at_least 1 (omega arith) (name h.1 >> optional _ dimensions x h.2)

vector_of : (q : Qualified) → Takes (VectorOf q)
vector_of q t from rest h = at_least 1 (omega arith) (name h.3 >> sees h.4 >> integral t h.1 h.2 h.5 >> sees h.6)

captured : Takes Captured
captured (capture.DefaultReference s) from rest h = token h
captured (capture.DefaultCopy s) from rest h = token h
captured (capture.Reference s x) from rest h = at_least 1 (omega arith) (token h.1 >> token h.2)
captured (capture.Copy x) from rest h = token h

lambda_parameter_type : Takes LambdaParameterTyped
lambda_parameter_type (lambda.Handler q) from rest h = name h
lambda_parameter_type (lambda.Auto s) from rest h = token h
lambda_parameter_type (lambda.Id q x) from rest h = at_least 1 (omega arith) (name h.1 >> dimensions x h.0 rest h.2)
lambda_parameter_type (lambda.Item q x) from rest h = at_least 1 (omega arith) (name h.1 >> dimensions x h.0 rest h.2)
lambda_parameter_type (lambda.NdItem q x) from rest h = at_least 1 (omega arith) (name h.1 >> dimensions x h.0 rest h.2)

lambda_parameter : Takes OneLambdaParameter
lambda_parameter p from rest h =
    at_least 1 (omega arith) (lambda_parameter_type p.of from h.0 h.2 >> maybe (mark "&") p.by_reference h.3 >> token h.4)

lambda_parameters : Takes LambdaParameters
lambda_parameters ps from rest h = at_least 1 (omega arith) (sees h.2 >> maybe_listed _ lambda_parameter ps h.3 >> sees h.4)

template_argument : Takes OneTemplateArgument
template_argument (template.Kernel is_class x) from rest h = at_least 1 (omega arith) (maybe (keyword "class") is_class h.1 >> token h.2)
template_argument (template.Information q x y) from rest h =
    at_least 1 (omega arith) (name h.4 >> sees h.5 >> token h.6 >> sees h.7 >> token h.8)

template_arguments : (member : Lexeme) → Takes (TemplateArguments member)
template_arguments member x from rest h =
    at_least 1 (omega arith) (sees h.1.2 >> template_argument x h.1.0 h.1.1 h.1.3 >> sees h.1.4)

-- ---- nodes

module _ (S : Rule Node) (f : Takes S) where
  any_expr : Takes (AnyExpr S)
  any_expr x from rest h = f (an_expr 1 x) from rest h

  in_parentheses : Takes (InParentheses S)
  in_parentheses x from rest h = at_least 1 (omega arith) (sees h.2 >> any_expr x h.0 h.1 h.3 >> sees h.4)

  argument : (a : ArgumentLayer) (from rest : List Token) → ArgumentRule S a from rest → Passes 1 from rest
  argument (Argument-F.Value x) from rest h = any_expr x from rest h
  argument (Argument-F.Braced s xs e) from rest h = at_least 1 (omega arith) (token h.2 >> listed _ any_expr xs h.3 >> token h.4)
  argument (Argument-F.Lambda l) from rest h = f (a_lambda l) from rest h

  one_argument : Takes (OneArgument S)
  one_argument a from rest h = argument (out-Argument a) from rest h

  bracketed : (b : Brackets) (s : Spot) (xs : List Argument) (e : Spot) {from rest : List Token} →
      BracketedArguments S b s xs e from rest → Passes 1 from rest
  bracketed b s xs e h = at_least 1 (omega arith) (token h.2 >> maybe_listed _ one_argument xs h.3 >> token h.4)

  expr : (least : ℕ) (x : ExprLayer) (from rest : List Token) → ExprRule S least x from rest → Passes 1 from rest
  expr least (Expr-F.Integer x) from rest h = token h
  expr least (Expr-F.Character x) from rest h = token h
  expr least (Expr-F.Boolean s true) from rest h = token h
  expr least (Expr-F.Boolean s false) from rest h = token h
  expr least (Expr-F.Name x) from rest h = token h
  expr least (Expr-F.Call g xs e) from rest h =
      at_least 1 (omega arith) (token h.3 >> sees h.4 >> maybe_listed _ any_expr xs h.5 >> token h.6)
  expr least (Expr-F.Parenthesized s x e) from rest h = at_least 1 (omega arith) (token h.2 >> any_expr x h.0 h.1 h.3 >> token h.4)
  expr least (Expr-F.StaticCast s t x e) from rest h =
      at_least 1 (omega arith) (token h.6 >> sees h.7 >> integral t h.1 h.2 h.8 >> sees h.9 >> sees h.10 >> any_expr x h.4 h.5 h.11 >> token h.12)
  expr least (Expr-F.FunctionalCast t x e) from rest h =
      at_least 1 (omega arith) (integral t from h.0 h.3.0 >> sees h.4 >> any_expr x h.1 h.2 h.5 >> token h.6)
  expr least (Expr-F.Construct t b s xs e) from rest h =
      at_least 1 (omega arith) (object_type t from h.0 h.1 >> bracketed b s xs e h.2)
  expr least (Expr-F.GroupBarrier q x e) from rest h =
      at_least 1 (omega arith) (name h.3 >> sees h.4 >> any_expr x h.1 h.2 h.5 >> token h.6)
  expr least (Expr-F.AccessTag q t) from rest h = name h
  expr least (Expr-F.InOrder q b e) from rest h =
      at_least 1 (omega arith) (name h.6 >> sees h.7 >> sees h.8 >> sees h.9 >> sees h.10 >> sees h.11 >> token h.12)
  expr least (Expr-F.ErrorCode q x) from rest h = at_least 1 (omega arith) (name h.2 >> sees h.3 >> token h.4)
  expr least (Expr-F.InitializeToIdentity q b e) from rest h =
      at_least 1 (omega arith) (name h.6 >> sees h.7 >> sees h.8 >> sees h.9 >> sees h.10 >> sees h.11 >> token h.12)
  expr least (Expr-F.FunctionObject q o t b e) from rest h =
      at_least 1 (omega arith) (name h.5 >> sees h.6 >> optional _ integral t h.7 >> sees h.8 >> sees h.9 >> token h.10)
  expr least (Expr-F.LibraryCall q g xs e) from rest h =
      at_least 1 (omega arith) (name h.3 >> sees h.4 >> maybe_listed _ one_argument xs h.5 >> token h.6)
  expr least (Expr-F.Subscript a s x e) from rest h =
      at_least 1 (omega arith) (f _ from h.0 h.3 >> token h.4 >> any_expr x h.1 h.2 h.5 >> token h.6)
  expr least (Expr-F.MemberCall a x t xs e) from rest h =
      at_least 1 (omega arith) (f _ from h.0 h.6 >> sees h.7 >> token h.8 >> optional _ (template_arguments x) t h.9 >> sees h.10 >>
      maybe_listed _ one_argument xs h.11 >> token h.12)
  expr least (Expr-F.Postfix a s o) from rest h = at_least 1 (omega arith) (f _ from h.0 h.1 >> token h.2)
  expr least (Expr-F.Prefix s o a) from rest h = at_least 1 (omega arith) (token h.1.1 >> f _ h.1.0 rest h.1.2)
  expr least (Expr-F.Unary s o a) from rest h = at_least 1 (omega arith) (token h.1.1 >> f _ h.1.0 rest h.1.2)
  expr least (Expr-F.Cast s t a) from rest h =
      at_least 1 (omega arith) (token h.1.3 >> integral t h.1.0 h.1.1 h.1.4 >> sees h.1.5 >> f _ h.1.2 rest h.1.6)
  expr least (Expr-F.Binary a s o b) from rest h = at_least 1 (omega arith) (f _ from h.1.0 h.1.2 >> token h.1.3 >> f _ h.1.1 rest h.1.4)
  expr least (Expr-F.Conditional a s b c) from rest h =
      at_least 1 (omega arith) (f _ from h.1.0 h.1.4 >> token h.1.5 >> any_expr b h.1.1 h.1.2 h.1.6 >> sees h.1.7 >> any_expr c h.1.3 rest h.1.8)

  lambda_node : (l : LambdaLayer) (from rest : List Token) → LambdaRule S l from rest → Passes 1 from rest
  lambda_node l from rest h =
      at_least 1 (omega arith) (token h.4 >> maybe_listed _ captured l.captures h.5 >> sees h.6 >> optional _ lambda_parameters l.parameters h.7 >>
      f (a_block l.body) h.3 rest h.8)

  declarator : (d : DeclaratorLayer) (from rest : List Token) → DeclaratorRule S d from rest → Passes 1 from rest
  declarator (Declarator-F.Uninitialized x) from rest h = token h
  declarator (Declarator-F.Equal x s v) from rest h = at_least 1 (omega arith) (token h.2 >> token h.3 >> any_expr v h.1 rest h.4)
  declarator (Declarator-F.Bracketed x b s v e) from rest h =
      at_least 1 (omega arith) (token h.3 >> token h.4 >> any_expr v h.1 h.2 h.5 >> token h.6)

  one_declarator : Takes (OneDeclarator S)
  one_declarator d from rest h = declarator (out-Declarator d) from rest h

  initializer : (x : InitializerLayer) (from rest : List Token) → InitializerRule S x from rest → Passes 1 from rest
  initializer (Initializer-F.Copy s x) from rest h = at_least 1 (omega arith) (token h.1 >> any_expr x h.0 rest h.2)
  initializer (Initializer-F.Direct b s xs e) from rest h = bracketed b s xs e h.1

  initialized : Takes (Initialized S)
  initialized x from rest h = initializer (out-Initializer x) from rest h

  declaration : (d : DeclarationLayer) (from rest : List Token) → DeclarationRule S d from rest → Passes 1 from rest
  declaration (Declaration-F.Integers c t ds e) from rest h =
      at_least 1 (omega arith) (optional _ const_specified c h.3 >> type_specified t h.0 h.1 h.4 >> listed _ one_declarator ds h.5 >> token h.6)
  declaration (Declaration-F.Vector q t x v e) from rest h =
      at_least 1 (omega arith) (vector_of q t from h.0 h.3 >> token h.4 >> optional _ initialized v h.5 >> token h.6)
  declaration (Declaration-F.DeviceVector q x v e) from rest h =
      at_least 1 (omega arith) (name h.7 >> sees h.8 >> name h.9 >> sees h.10 >> token h.11 >> optional _ initialized v h.12 >> token h.13)
  declaration (Declaration-F.ThreadVector q x e) from rest h =
      at_least 1 (omega arith) (name h.6 >> sees h.7 >> name h.8 >> sees h.9 >> token h.10 >> token h.11)
  declaration (Declaration-F.Thread q x b l e) from rest h =
      at_least 1 (omega arith) (name h.5 >> token h.6 >> sees h.7 >> f (a_lambda l) h.2 h.3 h.8 >> sees h.9 >> token h.10)
  declaration (Declaration-F.Object t x v e) from rest h =
      at_least 1 (omega arith) (object_type t from h.0 h.3 >> token h.4 >> optional _ initialized v h.5 >> token h.6)

  substatement : Takes (Substatement S)
  substatement x from rest h = f (a_stmt x) from rest h

  any_full : Takes (AnyFull S)
  any_full x from rest h = f (a_full x) from rest h

  block : (b : BlockLayer) (from rest : List Token) → BlockRule S b from rest → Passes 1 from rest
  block b from rest h = at_least 1 (omega arith) (token h.2 >> each _ substatement b.statements h.3 >> token h.4)

  full : (x : FullExpressionLayer) (from rest : List Token) → FullRule S x from rest → Passes 1 from rest
  full (FullExpression-F.Plain x) from rest h = any_expr x from rest h
  full (FullExpression-F.Assignment x s o y) from rest h =
      at_least 1 (omega arith) (any_expr x from h.0 h.2 >> token h.3 >> any_expr y h.1 rest h.4)

  printed : (x : PrintedLayer) (from rest : List Token) → PrintedRule S x from rest → Passes 1 from rest
  printed (Printed-F.Operand s x) from rest h = at_least 1 (omega arith) (token h.1 >> f _ h.0 rest h.2)
  printed (Printed-F.Text s x) from rest h = at_least 1 (omega arith) (token h.1 >> token h.2)
  printed (Printed-F.EndLine s q) from rest h = at_least 1 (omega arith) (token h.1 >> name h.2)

  one_printed : Takes (OnePrinted S)
  one_printed x from rest h = printed (out-Printed x) from rest h

  init_statement : Takes (InitStatement S)
  init_statement x from rest h = substatement x from rest h.1

  stmt : (x : StmtLayer) (from rest : List Token) → StmtRule S x from rest → Passes 1 from rest
  stmt (Stmt-F.Compound b) from rest h = block (out-Block b) from rest h
  stmt (Stmt-F.Null s) from rest h = token h
  stmt (Stmt-F.Declaration d) from rest h = declaration (out-Declaration d) from rest h
  stmt (Stmt-F.Expression x e) from rest h = at_least 1 (omega arith) (full (out-FullExpression x) from h.0 h.1 >> token h.2)
  stmt (Stmt-F.Print q xs e) from rest h = at_least 1 (omega arith) (name h.2 >> one_or_more _ one_printed xs h.3 >> token h.4)
  stmt (Stmt-F.Break s e) from rest h = at_least 1 (omega arith) (token h.1 >> token h.2)
  stmt (Stmt-F.Continue s e) from rest h = at_least 1 (omega arith) (token h.1 >> token h.2)
  stmt (Stmt-F.Return s x e) from rest h = at_least 1 (omega arith) (token h.2 >> optional _ any_expr x h.3 >> token h.4)
  stmt (Stmt-F.If s c x None) from rest h =
      at_least 1 (omega arith) (token h.2 >> in_parentheses c h.0 h.1 h.3 >> substatement x h.1 rest h.4)
  stmt (Stmt-F.If s c x (Some y)) from rest h =
      at_least 1 (omega arith) (token h.4 >> in_parentheses c h.0 h.1 h.5 >> substatement x h.1 h.2 h.6 >> sees h.7 >> substatement y h.3 rest h.8)
  stmt (Stmt-F.While s c x) from rest h =
      at_least 1 (omega arith) (token h.2 >> in_parentheses c h.0 h.1 h.3 >> substatement x h.1 rest h.4)
  stmt (Stmt-F.Do s x c e) from rest h =
      at_least 1 (omega arith) (token h.4 >> substatement x h.0 h.1 h.5 >> sees h.6 >> in_parentheses c h.2 h.3 h.7 >> token h.8)
  stmt (Stmt-F.For s a c b x) from rest h =
      at_least 1 (omega arith) (token h.7 >> sees h.8 >> init_statement a h.1 h.2 h.9 >> optional _ any_expr c h.10 >> sees h.11 >>
      optional _ any_full b h.12 >> sees h.13 >> substatement x h.6 rest h.14)
  stmt (Stmt-F.RangeFor s fixed t by_reference x range y) from rest h =
      at_least 1 (omega arith) (token h.8 >> sees h.9 >> maybe (keyword "const") fixed h.10 >> type_specified t h.2 h.3 h.11 >> maybe (mark "&") by_reference h.12 >>
      token h.13 >> sees h.14 >> token h.15.1 >> sees h.15.2 >> substatement y h.7 rest h.15.3)
  stmt (Stmt-F.Try s b x c) from rest h =
      at_least 1 (omega arith) (token h.9 >> f (a_block b) h.0 h.1 h.10 >> sees h.11 >> sees h.12 >> sees h.13 >> name h.14 >> sees h.15 >>
      token h.16.1 >> sees h.16.2 >> f (a_block c) h.7 rest h.16.3)

  pub NodeRule-takes : Takes (NodeRule S)
  NodeRule-takes (an_expr least x) from rest h = expr least (out-Expr x) from rest h
  NodeRule-takes (a_lambda l) from rest h = lambda_node (out-Lambda l) from rest h
  NodeRule-takes (a_full x) from rest h = full (out-FullExpression x) from rest h
  NodeRule-takes (a_block b) from rest h = block (out-Block b) from rest h
  NodeRule-takes (a_stmt x) from rest h = stmt (out-Stmt x) from rest h
