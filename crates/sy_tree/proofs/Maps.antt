-- A rule over other nodes: what is said of more of them says more.
use Rattle.std.proofs.Common.{ℕ, ◌≤◌, true, false, List, [], ◌∷◌, Some, None, le_trans}
use Rattle.sy_lex.specs.declared.Token.{Token}
use Rattle.sy_note.specs.declared.Spot.{Spot}
use Rattle.sy_tree.specs.declared.parts.Brackets.{Brackets}
use Rattle.sy_tree.specs.declared.tree.Argument.{Argument, out-Argument}
use Rattle.sy_tree.specs.declared.tree.Argument.TheOpen.{Argument-F, Declaration-F, Declarator-F, Expr-F, FullExpression-F, Initializer-F, Printed-F, Stmt-F}
use Rattle.sy_tree.specs.declared.tree.Block.{out-Block}
use Rattle.sy_tree.specs.declared.tree.Declaration.{out-Declaration}
use Rattle.sy_tree.specs.declared.tree.Declarator.{out-Declarator}
use Rattle.sy_tree.specs.declared.tree.Expr.{out-Expr}
use Rattle.sy_tree.specs.declared.tree.FullExpression.{out-FullExpression}
use Rattle.sy_tree.specs.declared.tree.Initializer.{out-Initializer}
use Rattle.sy_tree.specs.declared.tree.Lambda.{out-Lambda}
use Rattle.sy_tree.specs.declared.tree.Printed.{out-Printed}
use Rattle.sy_tree.specs.declared.tree.Stmt.{out-Stmt}
use Rattle.sy_tree.specs.Declarations.{DeclaratorRule, OneDeclarator, InitializerRule, Initialized, DeclarationRule}
use Rattle.sy_tree.specs.Expressions.{Node, an_expr, a_lambda, a_full, a_block, a_stmt, AnyExpr, InParentheses, ArgumentRule, OneArgument, BracketedArguments, ExprRule, LambdaRule}
use Rattle.sy_tree.specs.Grammar.{NodeRule}
use Rattle.sy_tree.specs.Layers.{ArgumentLayer, BlockLayer, DeclarationLayer, DeclaratorLayer, ExprLayer, FullExpressionLayer, InitializerLayer, LambdaLayer, PrintedLayer, StmtLayer}
use Rattle.sy_tree.specs.Lists.{Rule, Optional, Each, OneOrMore, Listed, MaybeListed}
use Rattle.sy_tree.specs.Statements.{Substatement, AnyFull, BlockRule, FullRule, PrintedRule, OnePrinted, InitStatement, StmtRule}

-- what stands by one rule stands by the other
abbrev pub Implies : {A : Type 0} → Rule A → Rule A → Type 0
Implies {A} P Q = (x : A) (from rest : List Token) → P x from rest → Q x from rest

module _ {A : Type 0} (P Q : Rule A) (f : Implies P Q) where
  pub Optional-map : Implies (Optional P) (Optional Q)
  Optional-map None from rest h = h
  Optional-map (Some x) from rest h = f x from rest h

  pub Each-map : Implies (Each P) (Each Q)
  Each-map [] from rest h = h
  Each-map (x ∷ more) from rest h = (h.0, f x from h.0 h.1, Each-map more h.0 rest h.2)

  pub OneOrMore-map : Implies (OneOrMore P) (OneOrMore Q)
  OneOrMore-map [] from rest h = h
  OneOrMore-map (x ∷ more) from rest h = Each-map (x ∷ more) from rest h

  pub Listed-map : Implies (Listed P) (Listed Q)
  Listed-map [] from rest h = h
  Listed-map (x ∷ []) from rest h = f x from rest h
  Listed-map (x ∷ y ∷ more) from rest h = (h.0, h.1, f x from h.0 h.2, h.3, Listed-map (y ∷ more) h.1 rest h.4)

  pub MaybeListed-map : Implies (MaybeListed P) (MaybeListed Q)
  MaybeListed-map [] from rest h = h
  MaybeListed-map (x ∷ more) from rest h = Listed-map (x ∷ more) from rest h

module _ (S T : Rule Node) (f : Implies S T) where
  any_expr : Implies (AnyExpr S) (AnyExpr T)
  any_expr x from rest h = f (an_expr 1 x) from rest h

  in_parentheses : Implies (InParentheses S) (InParentheses T)
  in_parentheses x from rest h = (h.0, h.1, h.2, any_expr x h.0 h.1 h.3, h.4)

  argument : (a : ArgumentLayer) (from rest : List Token) → ArgumentRule S a from rest → ArgumentRule T a from rest
  argument (Argument-F.Value x) from rest h = any_expr x from rest h
  argument (Argument-F.Braced s xs e) from rest h = (h.0, h.1, h.2, Listed-map _ _ any_expr xs h.0 h.1 h.3, h.4)
  argument (Argument-F.Lambda l) from rest h = f (a_lambda l) from rest h

  one_argument : Implies (OneArgument S) (OneArgument T)
  one_argument a from rest h = argument (out-Argument a) from rest h

  bracketed : (b : Brackets) (s : Spot) (xs : List Argument) (e : Spot) (from rest : List Token) →
      BracketedArguments S b s xs e from rest → BracketedArguments T b s xs e from rest
  bracketed b s xs e from rest h = (h.0, h.1, h.2, MaybeListed-map _ _ one_argument xs h.0 h.1 h.3, h.4)

  expr : (least : ℕ) (x : ExprLayer) (from rest : List Token) → ExprRule S least x from rest → ExprRule T least x from rest
  expr least (Expr-F.Integer x) from rest h = h
  expr least (Expr-F.Character x) from rest h = h
  expr least (Expr-F.Boolean s true) from rest h = h
  expr least (Expr-F.Boolean s false) from rest h = h
  expr least (Expr-F.Name x) from rest h = h
  expr least (Expr-F.Call g xs e) from rest h = (h.0, h.1, h.2, h.3, h.4, MaybeListed-map _ _ any_expr xs h.1 h.2 h.5, h.6)
  expr least (Expr-F.Parenthesized s x e) from rest h = (h.0, h.1, h.2, any_expr x h.0 h.1 h.3, h.4)
  expr least (Expr-F.StaticCast s t x e) from rest h =
      (h.0, h.1, h.2, h.3, h.4, h.5, h.6, h.7, h.8, h.9, h.10, any_expr x h.4 h.5 h.11, h.12)
  expr least (Expr-F.FunctionalCast t x e) from rest h = (h.0, h.1, h.2, h.3, h.4, any_expr x h.1 h.2 h.5, h.6)
  expr least (Expr-F.Construct t b s xs e) from rest h = (h.0, h.1, bracketed b s xs e h.0 rest h.2)
  expr least (Expr-F.GroupBarrier q x e) from rest h = (h.0, h.1, h.2, h.3, h.4, any_expr x h.1 h.2 h.5, h.6)
  expr least (Expr-F.AccessTag q t) from rest h = h
  expr least (Expr-F.InOrder q b e) from rest h = h
  expr least (Expr-F.ErrorCode q x) from rest h = h
  expr least (Expr-F.InitializeToIdentity q b e) from rest h = h
  expr least (Expr-F.FunctionObject q o t b e) from rest h = h
  expr least (Expr-F.LibraryCall q g xs e) from rest h = (h.0, h.1, h.2, h.3, h.4, MaybeListed-map _ _ one_argument xs h.1 h.2 h.5, h.6)
  expr least (Expr-F.Subscript a s x e) from rest h = (h.0, h.1, h.2, f (an_expr 13 a) from h.0 h.3, h.4, any_expr x h.1 h.2 h.5, h.6)
  expr least (Expr-F.MemberCall a x t xs e) from rest h =
      (h.0, h.1, h.2, h.3, h.4, h.5, f (an_expr 13 a) from h.0 h.6, h.7, h.8, h.9, h.10, MaybeListed-map _ _ one_argument xs h.4 h.5 h.11, h.12)
  expr least (Expr-F.Postfix a s o) from rest h = (h.0, f (an_expr 13 a) from h.0 h.1, h.2)
  expr least (Expr-F.Prefix s o a) from rest h = (h.0, (h.1.0, h.1.1, f (an_expr 12 a) h.1.0 rest h.1.2))
  expr least (Expr-F.Unary s o a) from rest h = (h.0, (h.1.0, h.1.1, f (an_expr 12 a) h.1.0 rest h.1.2))
  expr least (Expr-F.Cast s t a) from rest h = (h.0, (h.1.0, h.1.1, h.1.2, h.1.3, h.1.4, h.1.5, f (an_expr 12 a) h.1.2 rest h.1.6))
  expr least (Expr-F.Binary a s o b) from rest h = (h.0, (h.1.0, h.1.1, f _ from h.1.0 h.1.2, h.1.3, f _ h.1.1 rest h.1.4))
  expr least (Expr-F.Conditional a s b c) from rest h =
      (h.0, (h.1.0, h.1.1, h.1.2, h.1.3, f (an_expr 2 a) from h.1.0 h.1.4, h.1.5, any_expr b h.1.1 h.1.2 h.1.6, h.1.7, any_expr c h.1.3 rest h.1.8))

  lambda : (l : LambdaLayer) (from rest : List Token) → LambdaRule S l from rest → LambdaRule T l from rest
  lambda l from rest h = (h.0, h.1, h.2, h.3, h.4, h.5, h.6, h.7, f (a_block l.body) h.3 rest h.8)

  declarator : (d : DeclaratorLayer) (from rest : List Token) → DeclaratorRule S d from rest → DeclaratorRule T d from rest
  declarator (Declarator-F.Uninitialized x) from rest h = h
  declarator (Declarator-F.Equal x s v) from rest h = (h.0, h.1, h.2, h.3, any_expr v h.1 rest h.4)
  declarator (Declarator-F.Bracketed x b s v e) from rest h = (h.0, h.1, h.2, h.3, h.4, any_expr v h.1 h.2 h.5, h.6)

  pub OneDeclarator-map : Implies (OneDeclarator S) (OneDeclarator T)
  OneDeclarator-map d from rest h = declarator (out-Declarator d) from rest h

  initializer : (x : InitializerLayer) (from rest : List Token) → InitializerRule S x from rest → InitializerRule T x from rest
  initializer (Initializer-F.Copy s x) from rest h = (h.0, h.1, any_expr x h.0 rest h.2)
  initializer (Initializer-F.Direct b s xs e) from rest h = (h.0, bracketed b s xs e from rest h.1)

  initialized : Implies (Initialized S) (Initialized T)
  initialized x from rest h = initializer (out-Initializer x) from rest h

  declaration : (d : DeclarationLayer) (from rest : List Token) → DeclarationRule S d from rest → DeclarationRule T d from rest
  declaration (Declaration-F.Integers c t ds e) from rest h = (h.0, h.1, h.2, h.3, h.4, Listed-map _ _ OneDeclarator-map ds h.1 h.2 h.5, h.6)
  declaration (Declaration-F.Vector q t x v e) from rest h = (h.0, h.1, h.2, h.3, h.4, Optional-map _ _ initialized v h.1 h.2 h.5, h.6)
  declaration (Declaration-F.DeviceVector q x v e) from rest h =
      (h.0, h.1, h.2, h.3, h.4, h.5, h.6, h.7, h.8, h.9, h.10, h.11, Optional-map _ _ initialized v h.4 h.5 h.12, h.13)
  declaration (Declaration-F.ThreadVector q x e) from rest h = h
  declaration (Declaration-F.Thread q x b l e) from rest h =
      (h.0, h.1, h.2, h.3, h.4, h.5, h.6, h.7, f (a_lambda l) h.2 h.3 h.8, h.9, h.10)
  declaration (Declaration-F.Object t x v e) from rest h = (h.0, h.1, h.2, h.3, h.4, Optional-map _ _ initialized v h.1 h.2 h.5, h.6)

  substatement : Implies (Substatement S) (Substatement T)
  substatement x from rest h = f (a_stmt x) from rest h

  any_full : Implies (AnyFull S) (AnyFull T)
  any_full x from rest h = f (a_full x) from rest h

  block : (b : BlockLayer) (from rest : List Token) → BlockRule S b from rest → BlockRule T b from rest
  block b from rest h = (h.0, h.1, h.2, Each-map _ _ substatement b.statements h.0 h.1 h.3, h.4)

  full : (x : FullExpressionLayer) (from rest : List Token) → FullRule S x from rest → FullRule T x from rest
  full (FullExpression-F.Plain x) from rest h = any_expr x from rest h
  full (FullExpression-F.Assignment x s o y) from rest h = (h.0, h.1, any_expr x from h.0 h.2, h.3, any_expr y h.1 rest h.4)

  printed : (x : PrintedLayer) (from rest : List Token) → PrintedRule S x from rest → PrintedRule T x from rest
  printed (Printed-F.Operand s x) from rest h = (h.0, h.1, f (an_expr 10 x) h.0 rest h.2)
  printed (Printed-F.Text s x) from rest h = h
  printed (Printed-F.EndLine s q) from rest h = h

  one_printed : Implies (OnePrinted S) (OnePrinted T)
  one_printed x from rest h = printed (out-Printed x) from rest h

  init_statement : Implies (InitStatement S) (InitStatement T)
  init_statement x from rest h = (h.0, substatement x from rest h.1)

  stmt : (x : StmtLayer) (from rest : List Token) → StmtRule S x from rest → StmtRule T x from rest
  stmt (Stmt-F.Compound b) from rest h = block (out-Block b) from rest h
  stmt (Stmt-F.Null s) from rest h = h
  stmt (Stmt-F.Declaration d) from rest h = declaration (out-Declaration d) from rest h
  stmt (Stmt-F.Expression x e) from rest h = (h.0, full (out-FullExpression x) from h.0 h.1, h.2)
  stmt (Stmt-F.Print q xs e) from rest h = (h.0, h.1, h.2, OneOrMore-map _ _ one_printed xs h.0 h.1 h.3, h.4)
  stmt (Stmt-F.Break s e) from rest h = h
  stmt (Stmt-F.Continue s e) from rest h = h
  stmt (Stmt-F.Return s x e) from rest h = (h.0, h.1, h.2, Optional-map _ _ any_expr x h.0 h.1 h.3, h.4)
  stmt (Stmt-F.If s c x None) from rest h = (h.0, h.1, h.2, in_parentheses c h.0 h.1 h.3, substatement x h.1 rest h.4, h.5)
  stmt (Stmt-F.If s c x (Some y)) from rest h =
      (h.0, h.1, h.2, h.3, h.4, in_parentheses c h.0 h.1 h.5, substatement x h.1 h.2 h.6, h.7, substatement y h.3 rest h.8)
  stmt (Stmt-F.While s c x) from rest h = (h.0, h.1, h.2, in_parentheses c h.0 h.1 h.3, substatement x h.1 rest h.4)
  stmt (Stmt-F.Do s x c e) from rest h = (h.0, h.1, h.2, h.3, h.4, substatement x h.0 h.1 h.5, h.6, in_parentheses c h.2 h.3 h.7, h.8)
  stmt (Stmt-F.For s a c b x) from rest h = (
    h.0,
    h.1,
    h.2,
    h.3,
    h.4,
    h.5,
    h.6,
    h.7,
    h.8,
    init_statement a h.1 h.2 h.9,
    Optional-map _ _ any_expr c h.2 h.3 h.10,
    h.11,
    Optional-map _ _ any_full b h.4 h.5 h.12,
    h.13,
    substatement x h.6 rest h.14,
  )
  stmt (Stmt-F.RangeFor s fixed t by_reference name range x) from rest h =
      (h.0, h.1, h.2, h.3, h.4, h.5, h.6, h.7, h.8, h.9, h.10, h.11, h.12, h.13, h.14, (h.15.0, h.15.1, h.15.2, substatement x h.7 rest h.15.3))
  stmt (Stmt-F.Try s b name c) from rest h = (
    h.0,
    h.1,
    h.2,
    h.3,
    h.4,
    h.5,
    h.6,
    h.7,
    h.8,
    h.9,
    f (a_block b) h.0 h.1 h.10,
    h.11,
    h.12,
    h.13,
    h.14,
    h.15,
    (h.16.0, h.16.1, h.16.2, f (a_block c) h.7 rest h.16.3),
  )

  pub NodeRule-map : Implies (NodeRule S) (NodeRule T)
  NodeRule-map (an_expr least x) from rest h = expr least (out-Expr x) from rest h
  NodeRule-map (a_lambda l) from rest h = lambda (out-Lambda l) from rest h
  NodeRule-map (a_full x) from rest h = full (out-FullExpression x) from rest h
  NodeRule-map (a_block b) from rest h = block (out-Block b) from rest h
  NodeRule-map (a_stmt x) from rest h = stmt (out-Stmt x) from rest h

-- what may stand at a tighter level may stand at a looser one
pub ExprRule-looser : (S : Rule Node) (tight loose : ℕ) → loose ≤ tight → (x : ExprLayer) (from rest : List Token) →
    ExprRule S tight x from rest → ExprRule S loose x from rest
ExprRule-looser S tight loose le (Expr-F.Boolean s true) from rest h = h
ExprRule-looser S tight loose le (Expr-F.Boolean s false) from rest h = h
ExprRule-looser S tight loose le (Expr-F.Prefix s o a) from rest h = (le_trans le h.0, h.1)
ExprRule-looser S tight loose le (Expr-F.Unary s o a) from rest h = (le_trans le h.0, h.1)
ExprRule-looser S tight loose le (Expr-F.Cast s t a) from rest h = (le_trans le h.0, h.1)
ExprRule-looser S tight loose le (Expr-F.Binary a s o b) from rest h = (le_trans le h.0, h.1)
ExprRule-looser S tight loose le (Expr-F.Conditional a s b c) from rest h = (le_trans le h.0, h.1)
ExprRule-looser S tight loose le _ from rest h = h
