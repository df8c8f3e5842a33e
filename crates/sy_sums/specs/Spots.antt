-- The place of the first token of a part of a source.
use Rattle.std.specs.Prelude.{ℕ, zero, suc, Option, Some, None}
use Rattle.std.specs.Option.{option_map_or}
use Rattle.sy_note.specs.declared.Spot.{Spot}
use Rattle.sy_tree.specs.declared.parts.ConstSpecifier.{ConstSpecifier}
use Rattle.sy_tree.specs.declared.parts.ConstSpecifier.TheVariants.{Const, Constexpr}
use Rattle.sy_tree.specs.declared.parts.ObjectType.{ObjectType}
use Rattle.sy_tree.specs.declared.parts.ObjectType.TheVariants as object
use Rattle.sy_tree.specs.declared.parts.ReturnType.{ReturnType}
use Rattle.sy_tree.specs.declared.parts.ReturnType.TheVariants as returned
use Rattle.sy_tree.specs.declared.parts.TypeSpecifier.{TypeSpecifier}
use Rattle.sy_tree.specs.declared.parts.TypeSpecifier.TheVariants as specified
use Rattle.sy_tree.specs.declared.tree.Argument.TheOpen.{Declaration-F, Expr-F, FullExpression-F, Stmt-F}
use Rattle.sy_tree.specs.declared.tree.Block.{out-Block}
use Rattle.sy_tree.specs.declared.tree.Declaration.{Declaration, out-Declaration}
use Rattle.sy_tree.specs.declared.tree.Expr.{Expr, out-Expr}
use Rattle.sy_tree.specs.declared.tree.FileItem.{FileItem}
use Rattle.sy_tree.specs.declared.tree.FileItem.TheVariants.{Constant, Function}
use Rattle.sy_tree.specs.declared.tree.FullExpression.{FullExpression, out-FullExpression}
use Rattle.sy_tree.specs.declared.tree.Stmt.{Stmt, out-Stmt}
use Rattle.sy_tree.specs.Grammar.{max_height}
use Rattle.sy_tree.specs.Layers.{DeclarationLayer, ExprLayer, FullExpressionLayer, StmtLayer}

-- ---- types and specifiers

abbrev pub specifier_spot : ConstSpecifier → Spot
specifier_spot (Const s) = s
specifier_spot (Constexpr s) = s

abbrev pub type_spot : TypeSpecifier → Spot
type_spot (specified.Auto s) = s
type_spot (specified.Integer t) = t.spot

abbrev pub returned_spot : ReturnType → Spot
returned_spot (returned.Void s) = s
returned_spot (returned.Integer t) = t.spot

abbrev pub object_spot : ObjectType → Spot
object_spot (object.Queue q) = q.namespace
object_spot (object.Device q) = q.namespace
object_spot (object.Context q) = q.namespace
object_spot (object.Event q) = q.namespace
object_spot (object.Accessor q) = q.namespace
object_spot (object.HostAccessor q) = q.namespace
object_spot (object.LocalAccessor q a) = q.namespace
object_spot (object.Buffer q a) = q.namespace
object_spot (object.Range q d) = q.namespace
object_spot (object.Id q d) = q.namespace
object_spot (object.NdRange q d) = q.namespace

-- ---- expressions

-- the place that the node itself has
abbrev pub node_spot_at : ExprLayer → Spot
node_spot_at (Expr-F.Integer x) = x.spot
node_spot_at (Expr-F.Character x) = x.spot
node_spot_at (Expr-F.Boolean s v) = s
node_spot_at (Expr-F.Name x) = x.spot
node_spot_at (Expr-F.Call f xs e) = f.spot
node_spot_at (Expr-F.Parenthesized s x e) = s
node_spot_at (Expr-F.StaticCast s t x e) = s
node_spot_at (Expr-F.FunctionalCast t x e) = t.spot
node_spot_at (Expr-F.Construct t b s xs e) = object_spot t
node_spot_at (Expr-F.GroupBarrier q x e) = q.namespace
node_spot_at (Expr-F.AccessTag q t) = q.namespace
node_spot_at (Expr-F.InOrder q b e) = q.namespace
node_spot_at (Expr-F.ErrorCode q x) = q.namespace
node_spot_at (Expr-F.InitializeToIdentity q b e) = q.namespace
node_spot_at (Expr-F.FunctionObject q f t b e) = q.namespace
node_spot_at (Expr-F.LibraryCall q f xs e) = q.namespace
node_spot_at (Expr-F.Subscript a s x e) = s
node_spot_at (Expr-F.MemberCall a x t xs e) = x.spot
node_spot_at (Expr-F.Postfix a s o) = s
node_spot_at (Expr-F.Prefix s o a) = s
node_spot_at (Expr-F.Unary s o a) = s
node_spot_at (Expr-F.Cast s t a) = s
node_spot_at (Expr-F.Binary a s o b) = s
node_spot_at (Expr-F.Conditional a s b c) = s

unfoldable pub node_spot : Expr → Spot
node_spot x = node_spot_at (out-Expr x)

-- the part that an expression begins with, where it has no token of its own before it
abbrev pub left_part_at : ExprLayer → Option Expr
left_part_at (Expr-F.Subscript a s x e) = Some a
left_part_at (Expr-F.MemberCall a x t xs e) = Some a
left_part_at (Expr-F.Postfix a s o) = Some a
left_part_at (Expr-F.Binary a s o b) = Some a
left_part_at (Expr-F.Conditional a s b c) = Some a
left_part_at _ = None

unfoldable pub left_part : Expr → Option Expr
left_part x = left_part_at (out-Expr x)

-- where the leftmost part stands, so many parts down at most
unfoldable pub leftmost : ℕ → Expr → Spot
leftmost zero x = node_spot x
leftmost (suc n) x = option_map_or (leftmost n) (left_part x) (node_spot x)

abbrev pub first_token : Expr → Spot
first_token x = leftmost max_height x

abbrev pub full_spot_at : FullExpressionLayer → Spot
full_spot_at (FullExpression-F.Plain x) = first_token x
full_spot_at (FullExpression-F.Assignment x s o y) = first_token x

unfoldable pub full_spot : FullExpression → Spot
full_spot x = full_spot_at (out-FullExpression x)

-- ---- statements

abbrev pub declared_spot : Option ConstSpecifier → TypeSpecifier → Spot
declared_spot None t = type_spot t
declared_spot (Some c) t = specifier_spot c

abbrev pub declaration_spot_at : DeclarationLayer → Spot
declaration_spot_at (Declaration-F.Integers c t ds e) = declared_spot c t
declaration_spot_at (Declaration-F.Vector q t x i e) = q.namespace
declaration_spot_at (Declaration-F.DeviceVector q x i e) = q.namespace
declaration_spot_at (Declaration-F.ThreadVector q x e) = q.namespace
declaration_spot_at (Declaration-F.Thread q x b l e) = q.namespace
declaration_spot_at (Declaration-F.Object t x i e) = object_spot t

unfoldable pub declaration_spot : Declaration → Spot
declaration_spot d = declaration_spot_at (out-Declaration d)

abbrev pub statement_spot_at : StmtLayer → Spot
statement_spot_at (Stmt-F.Compound b) = (out-Block b).spot
statement_spot_at (Stmt-F.Null s) = s
statement_spot_at (Stmt-F.Declaration d) = declaration_spot d
statement_spot_at (Stmt-F.Expression x e) = full_spot x
statement_spot_at (Stmt-F.Print q xs e) = q.namespace
statement_spot_at (Stmt-F.Break s e) = s
statement_spot_at (Stmt-F.Continue s e) = s
statement_spot_at (Stmt-F.Return s x e) = s
statement_spot_at (Stmt-F.If s c x y) = s
statement_spot_at (Stmt-F.While s c x) = s
statement_spot_at (Stmt-F.Do s x c e) = s
statement_spot_at (Stmt-F.For s a c b x) = s
statement_spot_at (Stmt-F.RangeFor s f t r n v x) = s
statement_spot_at (Stmt-F.Try s b n c) = s

unfoldable pub statement_spot : Stmt → Spot
statement_spot x = statement_spot_at (out-Stmt x)

-- ---- items of the file

abbrev pub item_spot : FileItem → Spot
item_spot (Constant c) = specifier_spot c.specifier
item_spot (Function f) = returned_spot f.returned
