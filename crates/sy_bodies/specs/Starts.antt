-- Where parts of a source begin.
use Rattle.std.specs.Prelude.{◌≡◌, Option, Some, None}
use Rattle.sy_note.specs.declared.Spot.{Spot}
use Rattle.sy_rules.specs.declared.names.Names.{Names}
use Rattle.sy_rules.specs.Foreign.{type_start}
use Rattle.sy_rules.specs.Outcome.{Look}
use Rattle.sy_rules.specs.Walk.{Ex, start_of}
use Rattle.sy_tree.specs.declared.tree.Argument.TheOpen.{Declaration-F, Expr-F}
use Rattle.sy_tree.specs.declared.tree.Declaration.{Declaration, out-Declaration}
use Rattle.sy_tree.specs.declared.tree.Expr.{Expr, out-Expr}
use Rattle.sy_tree.specs.Layers.{DeclarationLayer, ExprLayer}

-- whatever is declared, a look at the expression gives this place as its first token's
abbrev pub StartsAt : Ex → Spot → Type 0
StartsAt a s = (n : Names) → (a n).what.0.first ≡ s

-- the same for a look that gives the place beside a tree
abbrev pub BeginsAt : {T : Type 0} → Look (Spot × T) → Spot → Type 0
BeginsAt a s = (n : Names) → (a n).what.0 ≡ s

-- the part that an expression begins with, where it has no token of its own before it
abbrev pub left_part_at : ExprLayer → Option Expr
left_part_at (Expr-F.Subscript a s x e) = Some a
left_part_at (Expr-F.MemberCall a x t xs e) = Some a
left_part_at (Expr-F.Postfix a s o) = Some a
left_part_at (Expr-F.Binary a s o b) = Some a
left_part_at (Expr-F.Conditional a s b c) = Some a
left_part_at _ = None

unfoldable pub left_part : Expr → Option Expr
left_part x = left_part_at (out-Expr x)

-- where an expression has a token of its own: its first token, if no part stands before it
abbrev pub own_start_at : ExprLayer → Spot
own_start_at (Expr-F.Integer x) = x.spot
own_start_at (Expr-F.Character x) = x.spot
own_start_at (Expr-F.Boolean s v) = s
own_start_at (Expr-F.Name x) = x.spot
own_start_at (Expr-F.Call f xs e) = f.spot
own_start_at (Expr-F.Parenthesized s x e) = s
own_start_at (Expr-F.StaticCast s t x e) = s
own_start_at (Expr-F.FunctionalCast t x e) = t.spot
own_start_at (Expr-F.Construct t b s xs e) = type_start t
own_start_at (Expr-F.GroupBarrier q x e) = q.namespace
own_start_at (Expr-F.AccessTag q t) = q.namespace
own_start_at (Expr-F.InOrder q b e) = q.namespace
own_start_at (Expr-F.ErrorCode q x) = q.namespace
own_start_at (Expr-F.InitializeToIdentity q b e) = q.namespace
own_start_at (Expr-F.FunctionObject q f t b e) = q.namespace
own_start_at (Expr-F.LibraryCall q f xs e) = q.namespace
own_start_at (Expr-F.Subscript a s x e) = s
own_start_at (Expr-F.MemberCall a x t xs e) = x.spot
own_start_at (Expr-F.Postfix a s o) = s
own_start_at (Expr-F.Prefix s o a) = s
own_start_at (Expr-F.Unary s o a) = s
own_start_at (Expr-F.Cast s t a) = s
own_start_at (Expr-F.Binary a s o b) = s
own_start_at (Expr-F.Conditional a s b c) = s

unfoldable pub own_start : Expr → Spot
own_start x = own_start_at (out-Expr x)

abbrev pub declaration_start_at : DeclarationLayer → Spot
declaration_start_at (Declaration-F.Integers c t ds e) = start_of c t
declaration_start_at (Declaration-F.Vector q t x i e) = q.namespace
declaration_start_at (Declaration-F.DeviceVector q x i e) = q.namespace
declaration_start_at (Declaration-F.ThreadVector q x e) = q.namespace
declaration_start_at (Declaration-F.Thread q x b l e) = q.namespace
declaration_start_at (Declaration-F.Object t x i e) = type_start t

unfoldable pub declaration_start : Declaration → Spot
declaration_start d = declaration_start_at (out-Declaration d)
