-- What a tree begins with.
use Prim.Native.String.{String}
use Rattle.std.proofs.Common.{◌≡◌, ℕ, Bool, true, false, ◌||◌, ◌&&◌, List, [], ◌∷◌, Some, None, refl, ap, ◌∙◌, inl, inr}
use Rattle.sy_lex.specs.declared.Token.{Token}
use Rattle.sy_lex.specs.declared.Word.{Word}
use Rattle.sy_note.specs.declared.Spot.{Spot}
use Rattle.sy_num.specs.declared.Kind.{Kind}
use Rattle.sy_num.specs.declared.Kind.TheVariants as kind
use Rattle.sy_num.specs.declared.UnOp.{UnOp}
use Rattle.sy_num.specs.declared.UnOp.TheVariants as un
use Rattle.sy_tree.specs.declared.parts.ConstSpecifier.{ConstSpecifier}
use Rattle.sy_tree.specs.declared.parts.ConstSpecifier.TheVariants as const
use Rattle.sy_tree.specs.declared.parts.IntegerType.{IntegerType}
use Rattle.sy_tree.specs.declared.parts.ObjectType.{ObjectType}
use Rattle.sy_tree.specs.declared.parts.ObjectType.TheVariants as object
use Rattle.sy_tree.specs.declared.parts.Step.{Step}
use Rattle.sy_tree.specs.declared.parts.Step.TheVariants as step
use Rattle.sy_tree.specs.declared.parts.TypeSpecifier.{TypeSpecifier}
use Rattle.sy_tree.specs.declared.parts.TypeSpecifier.TheVariants as specifier
use Rattle.sy_tree.specs.declared.tree.Argument.TheOpen.{Declaration-F, Expr-F, FullExpression-F, Stmt-F}
use Rattle.sy_tree.specs.declared.tree.Declaration.{out-Declaration}
use Rattle.sy_tree.specs.declared.tree.Expr.{out-Expr}
use Rattle.sy_tree.specs.declared.tree.FullExpression.{out-FullExpression}
use Rattle.sy_tree.specs.declared.tree.Stmt.{out-Stmt}
use Rattle.sy_tree.specs.Beginnings.{opens_type, opens_expr, opens_declaration, opens_stmt, opens, first}
use Rattle.sy_tree.specs.Declarations.{DeclarationRule}
use Rattle.sy_tree.specs.Expressions.{Node, an_expr, a_lambda, a_full, a_block, a_stmt, ExprRule}
use Rattle.sy_tree.specs.Grammar.{NodeRule}
use Rattle.sy_tree.specs.Layers.{DeclarationLayer, ExprLayer, FullExpressionLayer, StmtLayer}
use Rattle.sy_tree.specs.Lists.{Rule}
use Rattle.sy_tree.specs.Statements.{FullRule, StmtRule}
use Rattle.sy_tree.specs.Types.{Integral, Object, TypeSpecified, ConstSpecified}
use Rattle.sy_tree.specs.Words.{At, Spelled, SpelledAs, spellings, mark, keyword, identifier, unary_spelling, step_spelling}

-- ---- first words

at_first : (f : Word → Bool) {w : Word} {s : Spot} {from rest : List Token} → At w s from rest → f w ≡ true → first f from ≡ true
at_first f h e = ap (first f) h.2 ∙ e

first-weaken : (f g : Word → Bool) → ((w : Word) → f w ≡ true → g w ≡ true) → (from : List Token) → first f from ≡ true → first g from ≡ true
first-weaken f g le [] h = absurd cc
first-weaken f g le (t ∷ ts) h = le t.word h

or_right : (a b : Bool) → b ≡ true → (a || b) ≡ true
or_right true b h = refl
or_right false b h = h

or_left : (a b : Bool) → a ≡ true → (a || b) ≡ true
or_left true b h = refl
or_left false b h = absurd cc

type_opens_expr : (w : Word) → opens_type w ≡ true → opens_expr w ≡ true
type_opens_expr w h = or_left _ _ (or_left _ _ (or_right _ _ h))

type_opens_declaration : (w : Word) → opens_type w ≡ true → opens_declaration w ≡ true
type_opens_declaration w h = or_left _ _ (or_left _ _ h)

expr_opens_stmt : (w : Word) → opens_expr w ≡ true → opens_stmt w ≡ true
expr_opens_stmt w h = or_left _ _ (or_left _ _ (or_left _ _ h))

declaration_opens_stmt : (w : Word) → opens_declaration w ≡ true → opens_stmt w ≡ true
declaration_opens_stmt w h = or_left _ _ (or_left _ _ (or_right _ _ h))

-- ---- types

spelled : (w : String) (more : List String) (s : Spot) (from rest : List Token) → Spelled (w ∷ more) s from rest →
    opens_type (keyword w) ≡ true → first opens_type from ≡ true
spelled w [] s from rest h e = at_first opens_type h e
spelled w (v ∷ more) s from rest h e = at_first opens_type h.2 e

-- whether each of the ways begins so
ways_open : List (List String) → Bool
ways_open [] = true
ways_open ([] ∷ others) = ways_open others
ways_open ((w ∷ more) ∷ others) = opens_type (keyword w) && ways_open others

and_left : (a b : Bool) → (a && b) ≡ true → a ≡ true
and_left true b h = refl
and_left false b h = h

and_right : (a b : Bool) → (a && b) ≡ true → b ≡ true
and_right true b h = h
and_right false b h = absurd cc

spelled_as : (ways : List (List String)) (s : Spot) (from rest : List Token) → ways_open ways ≡ true → SpelledAs ways s from rest →
    first opens_type from ≡ true
unfolding ways_open
spelled_as [] s from rest e h = absurd h
spelled_as ([] ∷ others) s from rest e (inl h) = absurd h
spelled_as ([] ∷ others) s from rest e (inr h) = spelled_as others s from rest e h
spelled_as ((w ∷ more) ∷ others) s from rest e (inl h) = spelled w more s from rest h (and_left _ _ e)
spelled_as ((w ∷ more) ∷ others) s from rest e (inr h) = spelled_as others s from rest (and_right _ _ e) h

kinds_open : (k : Kind) → ways_open (spellings k) ≡ true
unfolding ways_open keyword
kinds_open kind.Bool = refl
kinds_open kind.Char = refl
kinds_open kind.SChar = refl
kinds_open kind.UChar = refl
kinds_open kind.Short = refl
kinds_open kind.UShort = refl
kinds_open kind.Int = refl
kinds_open kind.UInt = refl
kinds_open kind.Long = refl
kinds_open kind.ULong = refl
kinds_open kind.LLong = refl
kinds_open kind.ULLong = refl

integral : (t : IntegerType) (from rest : List Token) → Integral t from rest → first opens_type from ≡ true
integral t from rest h = spelled_as (spellings t.kind) t.spot from rest (kinds_open t.kind) h

integral_expr : (t : IntegerType) (from rest : List Token) → Integral t from rest → first opens_expr from ≡ true
integral_expr t from rest h = first-weaken _ _ type_opens_expr from (integral t from rest h)

type_specified : (t : TypeSpecifier) (from rest : List Token) → TypeSpecified t from rest → first opens_declaration from ≡ true
unfolding keyword
type_specified (specifier.Auto s) from rest h = at_first opens_declaration h refl
type_specified (specifier.Integer t) from rest h = first-weaken _ _ type_opens_declaration from (integral t from rest h)

const_specified : (c : ConstSpecifier) (from rest : List Token) → ConstSpecified c from rest → first opens_declaration from ≡ true
unfolding keyword
const_specified (const.Const s) from rest h = at_first opens_declaration h refl
const_specified (const.Constexpr s) from rest h = at_first opens_declaration h refl

-- the token that an object's type begins with
object_type : (f : Word → Bool) → f (identifier "sycl") ≡ true → (t : ObjectType) (from rest : List Token) → Object t from rest → first f from ≡ true
object_type f e (object.Queue q) from rest h = at_first f h.2 e
object_type f e (object.Device q) from rest h = at_first f h.2 e
object_type f e (object.Context q) from rest h = at_first f h.2 e
object_type f e (object.Event q) from rest h = at_first f h.2 e
object_type f e (object.Accessor q) from rest h = at_first f h.2 e
object_type f e (object.HostAccessor q) from rest h = at_first f h.2 e
object_type f e (object.LocalAccessor q x) from rest h = at_first f h.1.2 e
object_type f e (object.Buffer q x) from rest h = at_first f h.1.2 e
object_type f e (object.Range q x) from rest h = at_first f h.1.2 e
object_type f e (object.Id q x) from rest h = at_first f h.1.2 e
object_type f e (object.NdRange q x) from rest h = at_first f h.1.2 e

-- ---- nodes

unary_opens : (o : UnOp) → opens_expr (mark (unary_spelling o)) ≡ true
unfolding mark
unary_opens un.Plus = refl
unary_opens un.Minus = refl
unary_opens un.Not = refl
unary_opens un.Flip = refl

step_opens : (o : Step) → opens_expr (mark (step_spelling o)) ≡ true
unfolding mark
step_opens step.Increment = refl
step_opens step.Decrement = refl

sycl_opens : opens_expr (identifier "sycl") ≡ true
unfolding identifier
sycl_opens = refl

-- what begins with a name of the library
of_library : {s : Spot} {from rest : List Token} → At (identifier "sycl") s from rest → first opens_expr from ≡ true
of_library h = at_first opens_expr h sycl_opens

abbrev Begins : Rule Node → Type 0
Begins S = (x : Node) (from rest : List Token) → S x from rest → first (opens x) from ≡ true

module _ (S : Rule Node) (f : Begins S) where
  expr : (least : ℕ) (x : ExprLayer) (from rest : List Token) → ExprRule S least x from rest → first opens_expr from ≡ true
  unfolding mark keyword
  expr least (Expr-F.Integer x) from rest h = at_first opens_expr h refl
  expr least (Expr-F.Character x) from rest h = at_first opens_expr h refl
  expr least (Expr-F.Boolean s true) from rest h = at_first opens_expr h refl
  expr least (Expr-F.Boolean s false) from rest h = at_first opens_expr h refl
  expr least (Expr-F.Name x) from rest h = at_first opens_expr h refl
  expr least (Expr-F.Call g xs e) from rest h = at_first opens_expr h.3 refl
  expr least (Expr-F.Parenthesized s x e) from rest h = at_first opens_expr h.2 refl
  expr least (Expr-F.StaticCast s t x e) from rest h = at_first opens_expr h.6 refl
  expr least (Expr-F.FunctionalCast t x e) from rest h = integral_expr t from _ h.3.0
  expr least (Expr-F.Construct t b s xs e) from rest h = object_type opens_expr sycl_opens t from _ h.1
  expr least (Expr-F.GroupBarrier q x e) from rest h = of_library h.3.2
  expr least (Expr-F.AccessTag q t) from rest h = of_library h.2
  expr least (Expr-F.InOrder q b e) from rest h = of_library h.6.2
  expr least (Expr-F.ErrorCode q x) from rest h = of_library h.2.2
  expr least (Expr-F.InitializeToIdentity q b e) from rest h = of_library h.6.2
  expr least (Expr-F.FunctionObject q o t b e) from rest h = of_library h.5.2
  expr least (Expr-F.LibraryCall q g xs e) from rest h = of_library h.3.2
  expr least (Expr-F.Subscript a s x e) from rest h = f _ from _ h.3
  expr least (Expr-F.MemberCall a x t xs e) from rest h = f _ from _ h.6
  expr least (Expr-F.Postfix a s o) from rest h = f _ from _ h.1
  expr least (Expr-F.Prefix s o a) from rest h = at_first opens_expr h.1.1 (step_opens o)
  expr least (Expr-F.Unary s o a) from rest h = at_first opens_expr h.1.1 (unary_opens o)
  expr least (Expr-F.Cast s t a) from rest h = at_first opens_expr h.1.3 refl
  expr least (Expr-F.Binary a s o b) from rest h = f _ from _ h.1.2
  expr least (Expr-F.Conditional a s b c) from rest h = f _ from _ h.1.4

  declaration : (d : DeclarationLayer) (from rest : List Token) → DeclarationRule S d from rest → first opens_declaration from ≡ true
  unfolding identifier
  declaration (Declaration-F.Integers None t ds e) from rest h = rw h.3 (type_specified t h.0 h.1 h.4)
  declaration (Declaration-F.Integers (Some c) t ds e) from rest h = const_specified c from _ h.3
  declaration (Declaration-F.Vector q t x v e) from rest h = at_first opens_declaration h.3.3.2 refl
  declaration (Declaration-F.DeviceVector q x v e) from rest h = at_first opens_declaration h.7.2 refl
  declaration (Declaration-F.ThreadVector q x e) from rest h = at_first opens_declaration h.6.2 refl
  declaration (Declaration-F.Thread q x b l e) from rest h = at_first opens_declaration h.5.2 refl
  declaration (Declaration-F.Object t x v e) from rest h = object_type opens_declaration refl t from _ h.3

  full : (x : FullExpressionLayer) (from rest : List Token) → FullRule S x from rest → first opens_expr from ≡ true
  full (FullExpression-F.Plain x) from rest h = f _ from rest h
  full (FullExpression-F.Assignment x s o y) from rest h = f _ from _ h.2

  stmt : (x : StmtLayer) (from rest : List Token) → StmtRule S x from rest → first opens_stmt from ≡ true
  unfolding mark keyword identifier
  stmt (Stmt-F.Compound b) from rest h = at_first opens_stmt h.2 refl
  stmt (Stmt-F.Null s) from rest h = at_first opens_stmt h refl
  stmt (Stmt-F.Declaration d) from rest h = first-weaken _ _ declaration_opens_stmt from (declaration (out-Declaration d) from rest h)
  stmt (Stmt-F.Expression x e) from rest h = first-weaken _ _ expr_opens_stmt from (full (out-FullExpression x) from _ h.1)
  stmt (Stmt-F.Print q xs e) from rest h = at_first opens_stmt h.2.2 refl
  stmt (Stmt-F.Break s e) from rest h = at_first opens_stmt h.1 refl
  stmt (Stmt-F.Continue s e) from rest h = at_first opens_stmt h.1 refl
  stmt (Stmt-F.Return s x e) from rest h = at_first opens_stmt h.2 refl
  stmt (Stmt-F.If s c x None) from rest h = at_first opens_stmt h.2 refl
  stmt (Stmt-F.If s c x (Some y)) from rest h = at_first opens_stmt h.4 refl
  stmt (Stmt-F.While s c x) from rest h = at_first opens_stmt h.2 refl
  stmt (Stmt-F.Do s x c e) from rest h = at_first opens_stmt h.4 refl
  stmt (Stmt-F.For s a c b x) from rest h = at_first opens_stmt h.7 refl
  stmt (Stmt-F.RangeFor s fixed t by_reference x range y) from rest h = at_first opens_stmt h.8 refl
  stmt (Stmt-F.Try s b x c) from rest h = at_first opens_stmt h.9 refl

  pub NodeRule-begins : Begins (NodeRule S)
  unfolding mark
  NodeRule-begins (an_expr least x) from rest h = expr least (out-Expr x) from rest h
  NodeRule-begins (a_lambda l) from rest h = at_first (opens (a_lambda l)) h.4 refl
  NodeRule-begins (a_full x) from rest h = full (out-FullExpression x) from rest h
  NodeRule-begins (a_block b) from rest h = at_first (opens (a_block b)) h.2 refl
  NodeRule-begins (a_stmt x) from rest h = stmt (out-Stmt x) from rest h
