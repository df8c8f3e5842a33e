-- Where the looks of the definition say that a part begins.
use Rattle.std.proofs.Common.{◌≡◌, sym, ap, ◌∙◌, Bool, Option, Some, None}
use Rattle.sy_bodies.proofs.FormLemmas.{plain_is, assignment_is}
use Rattle.sy_bodies.specs.Starts.{StartsAt, BeginsAt, left_part, left_part_at, own_start, own_start_at, declaration_start, declaration_start_at}
use Rattle.sy_declare.specs.Trees.{declaration, full}
use Rattle.sy_note.specs.declared.Spot.{Spot}
use Rattle.sy_rules.specs.declared.names.Names.{Names}
use Rattle.sy_rules.specs.declared.names.Taken.{Taken}
use Rattle.sy_rules.specs.declared.names.Taken.TheVariants as taken
use Rattle.sy_rules.specs.Names.{with_setting}
use Rattle.sy_rules.specs.Words.{member_named}
use Rattle.sy_rules.specs.Walk.{Ar, De, Dr, Ex, Fu, In, Pr, St, Bl, La, argument_step, declaration_step, declarator_step, expr_step, full_step, initializer_step, printed_step, stmt_step, block_step, lambda_step, expr, taken_as, taken_beside, taken_before_member}
use Rattle.sy_tree.specs.declared.operators.AssignmentOperator.{AssignmentOperator}
use Rattle.sy_tree.specs.declared.tree.Argument.TheOpen.{Declaration-F, Expr-F}
use Rattle.sy_tree.specs.declared.tree.Declaration.{Declaration, fold-roll-Declaration, out-Declaration, roll-Declaration, roll-out-Declaration}
use Rattle.sy_tree.specs.declared.tree.Expr.{Expr, fold-roll-Expr, out-Expr, roll-Expr, roll-out-Expr}
use Rattle.sy_tree.specs.declared.tree.FullExpression.{FullExpression}
use Rattle.sy_tree.specs.declared.tree.FullExpression.TheVariants as full_tree
use Rattle.sy_tree.specs.Layers.{DeclarationLayer, ExprLayer}

abbrev with_taken : Taken → Names → Names
with_taken k n = with_setting (λ s. record s { taken = k }) n

same_part : (a b : Expr) → ◌≡◌ {A = Option Expr} (Some a) (Some b) → a ≡ b
same_part a b e = cc

-- ---- expressions

here_at : (l : ExprLayer) → left_part_at l ≡ None → StartsAt (expr (roll-Expr l)) (own_start_at l)
here_at (Expr-F.Integer x) h = λ n. ap (λ z. (z n).what.0.first) (fold-roll-Expr Ar De Dr Ex Fu In Pr St Bl La argument_step declaration_step declarator_step expr_step full_step initializer_step printed_step stmt_step block_step lambda_step (Expr-F.Integer x))
here_at (Expr-F.Character x) h = λ n. ap (λ z. (z n).what.0.first) (fold-roll-Expr Ar De Dr Ex Fu In Pr St Bl La argument_step declaration_step declarator_step expr_step full_step initializer_step printed_step stmt_step block_step lambda_step (Expr-F.Character x))
here_at (Expr-F.Boolean s v) h = λ n. ap (λ z. (z n).what.0.first) (fold-roll-Expr Ar De Dr Ex Fu In Pr St Bl La argument_step declaration_step declarator_step expr_step full_step initializer_step printed_step stmt_step block_step lambda_step (Expr-F.Boolean s v))
here_at (Expr-F.Name x) h = λ n. ap (λ z. (z n).what.0.first) (fold-roll-Expr Ar De Dr Ex Fu In Pr St Bl La argument_step declaration_step declarator_step expr_step full_step initializer_step printed_step stmt_step block_step lambda_step (Expr-F.Name x))
here_at (Expr-F.Call f xs e) h = λ n. ap (λ z. (z n).what.0.first) (fold-roll-Expr Ar De Dr Ex Fu In Pr St Bl La argument_step declaration_step declarator_step expr_step full_step initializer_step printed_step stmt_step block_step lambda_step (Expr-F.Call f xs e))
here_at (Expr-F.Parenthesized s x e) h = λ n. ap (λ z. (z n).what.0.first) (fold-roll-Expr Ar De Dr Ex Fu In Pr St Bl La argument_step declaration_step declarator_step expr_step full_step initializer_step printed_step stmt_step block_step lambda_step (Expr-F.Parenthesized s x e))
here_at (Expr-F.StaticCast s t x e) h = λ n. ap (λ z. (z n).what.0.first) (fold-roll-Expr Ar De Dr Ex Fu In Pr St Bl La argument_step declaration_step declarator_step expr_step full_step initializer_step printed_step stmt_step block_step lambda_step (Expr-F.StaticCast s t x e))
here_at (Expr-F.FunctionalCast t x e) h = λ n. ap (λ z. (z n).what.0.first) (fold-roll-Expr Ar De Dr Ex Fu In Pr St Bl La argument_step declaration_step declarator_step expr_step full_step initializer_step printed_step stmt_step block_step lambda_step (Expr-F.FunctionalCast t x e))
here_at (Expr-F.Construct t b s xs e) h = λ n. ap (λ z. (z n).what.0.first) (fold-roll-Expr Ar De Dr Ex Fu In Pr St Bl La argument_step declaration_step declarator_step expr_step full_step initializer_step printed_step stmt_step block_step lambda_step (Expr-F.Construct t b s xs e))
here_at (Expr-F.GroupBarrier q x e) h = λ n. ap (λ z. (z n).what.0.first) (fold-roll-Expr Ar De Dr Ex Fu In Pr St Bl La argument_step declaration_step declarator_step expr_step full_step initializer_step printed_step stmt_step block_step lambda_step (Expr-F.GroupBarrier q x e))
here_at (Expr-F.AccessTag q t) h = λ n. ap (λ z. (z n).what.0.first) (fold-roll-Expr Ar De Dr Ex Fu In Pr St Bl La argument_step declaration_step declarator_step expr_step full_step initializer_step printed_step stmt_step block_step lambda_step (Expr-F.AccessTag q t))
here_at (Expr-F.InOrder q b e) h = λ n. ap (λ z. (z n).what.0.first) (fold-roll-Expr Ar De Dr Ex Fu In Pr St Bl La argument_step declaration_step declarator_step expr_step full_step initializer_step printed_step stmt_step block_step lambda_step (Expr-F.InOrder q b e))
here_at (Expr-F.ErrorCode q x) h = λ n. ap (λ z. (z n).what.0.first) (fold-roll-Expr Ar De Dr Ex Fu In Pr St Bl La argument_step declaration_step declarator_step expr_step full_step initializer_step printed_step stmt_step block_step lambda_step (Expr-F.ErrorCode q x))
here_at (Expr-F.InitializeToIdentity q b e) h = λ n. ap (λ z. (z n).what.0.first) (fold-roll-Expr Ar De Dr Ex Fu In Pr St Bl La argument_step declaration_step declarator_step expr_step full_step initializer_step printed_step stmt_step block_step lambda_step (Expr-F.InitializeToIdentity q b e))
here_at (Expr-F.FunctionObject q f t b e) h = λ n. ap (λ z. (z n).what.0.first) (fold-roll-Expr Ar De Dr Ex Fu In Pr St Bl La argument_step declaration_step declarator_step expr_step full_step initializer_step printed_step stmt_step block_step lambda_step (Expr-F.FunctionObject q f t b e))
here_at (Expr-F.LibraryCall q f xs e) h = λ n. ap (λ z. (z n).what.0.first) (fold-roll-Expr Ar De Dr Ex Fu In Pr St Bl La argument_step declaration_step declarator_step expr_step full_step initializer_step printed_step stmt_step block_step lambda_step (Expr-F.LibraryCall q f xs e))
here_at (Expr-F.Prefix s o a) h = λ n. ap (λ z. (z n).what.0.first) (fold-roll-Expr Ar De Dr Ex Fu In Pr St Bl La argument_step declaration_step declarator_step expr_step full_step initializer_step printed_step stmt_step block_step lambda_step (Expr-F.Prefix s o a))
here_at (Expr-F.Unary s o a) h = λ n. ap (λ z. (z n).what.0.first) (fold-roll-Expr Ar De Dr Ex Fu In Pr St Bl La argument_step declaration_step declarator_step expr_step full_step initializer_step printed_step stmt_step block_step lambda_step (Expr-F.Unary s o a))
here_at (Expr-F.Cast s t a) h = λ n. ap (λ z. (z n).what.0.first) (fold-roll-Expr Ar De Dr Ex Fu In Pr St Bl La argument_step declaration_step declarator_step expr_step full_step initializer_step printed_step stmt_step block_step lambda_step (Expr-F.Cast s t a))
here_at (Expr-F.Subscript b s x e) h = λ n. cc
here_at (Expr-F.MemberCall b x t xs e) h = λ n. cc
here_at (Expr-F.Postfix b s o) h = λ n. cc
here_at (Expr-F.Binary b s o c) h = λ n. cc
here_at (Expr-F.Conditional b s x c) h = λ n. cc

left_at : (l : ExprLayer) (a : Expr) (r : Spot) → left_part_at l ≡ Some a → StartsAt (expr a) r → StartsAt (expr (roll-Expr l)) r
left_at (Expr-F.Subscript b s x e) a r h g = λ n. ap (λ z. (z n).what.0.first) (fold-roll-Expr Ar De Dr Ex Fu In Pr St Bl La argument_step declaration_step declarator_step expr_step full_step initializer_step printed_step stmt_step block_step lambda_step (Expr-F.Subscript b s x e)) ∙ ap (λ z. (expr z (with_taken taken.Nothing n)).what.0.first) (same_part b a h) ∙ g (with_taken taken.Nothing n)
left_at (Expr-F.MemberCall b x t xs e) a r h g = λ n. ap (λ z. (z n).what.0.first) (fold-roll-Expr Ar De Dr Ex Fu In Pr St Bl La argument_step declaration_step declarator_step expr_step full_step initializer_step printed_step stmt_step block_step lambda_step (Expr-F.MemberCall b x t xs e)) ∙ ap (λ z. (expr z (with_taken (taken_before_member n.setting.taken (member_named x.text)) n)).what.0.first) (same_part b a h) ∙ g (with_taken (taken_before_member n.setting.taken (member_named x.text)) n)
left_at (Expr-F.Postfix b s o) a r h g = λ n. ap (λ z. (z n).what.0.first) (fold-roll-Expr Ar De Dr Ex Fu In Pr St Bl La argument_step declaration_step declarator_step expr_step full_step initializer_step printed_step stmt_step block_step lambda_step (Expr-F.Postfix b s o)) ∙ ap (λ z. (expr z (with_taken taken.Nothing n)).what.0.first) (same_part b a h) ∙ g (with_taken taken.Nothing n)
left_at (Expr-F.Binary b s o c) a r h g = λ n. ap (λ z. (z n).what.0.first) (fold-roll-Expr Ar De Dr Ex Fu In Pr St Bl La argument_step declaration_step declarator_step expr_step full_step initializer_step printed_step stmt_step block_step lambda_step (Expr-F.Binary b s o c)) ∙ ap (λ z. (expr z (with_taken (taken_beside o) n)).what.0.first) (same_part b a h) ∙ g (with_taken (taken_beside o) n)
left_at (Expr-F.Conditional b s x c) a r h g = λ n. ap (λ z. (z n).what.0.first) (fold-roll-Expr Ar De Dr Ex Fu In Pr St Bl La argument_step declaration_step declarator_step expr_step full_step initializer_step printed_step stmt_step block_step lambda_step (Expr-F.Conditional b s x c)) ∙ ap (λ z. (expr z (with_taken taken.Nothing n)).what.0.first) (same_part b a h) ∙ g (with_taken taken.Nothing n)
left_at l a r h g = λ n. cc

pub starts_here : (e : Expr) (r : Spot) → left_part e ≡ None → r ≡ own_start e → StartsAt (expr e) r
unfolding left_part own_start
starts_here e r h er = λ n. ap (λ z. (expr z n).what.0.first) (sym (roll-out-Expr e)) ∙ here_at (out-Expr e) h n ∙ sym er

pub starts_left : (e a : Expr) (r : Spot) → left_part e ≡ Some a → StartsAt (expr a) r → StartsAt (expr e) r
unfolding left_part
starts_left e a r h g = λ n. ap (λ z. (expr z n).what.0.first) (sym (roll-out-Expr e)) ∙ left_at (out-Expr e) a r h g n

-- ---- full expressions and declarations

pub plain_begins : (f : FullExpression) (a : Expr) (r : Spot) → f ≡ full_tree.Plain a → StartsAt (expr a) r → (stands : Bool) → BeginsAt (full f stands) r
plain_begins f a r is g stands = λ n. ap (λ z. (z stands n).what.0) (ap full is ∙ plain_is a) ∙ g (with_taken (taken_as taken.Statement stands) n)

pub assignment_begins : (f : FullExpression) (t : Expr) (s : Spot) (op : AssignmentOperator) (v : Expr) (r : Spot) → f ≡ full_tree.Assignment t s op v → StartsAt (expr t) r → (stands : Bool) → BeginsAt (full f stands) r
assignment_begins f t s op v r is g stands = λ n. ap (λ z. (z stands n).what.0) (ap full is ∙ assignment_is t s op v) ∙ g (with_taken (taken_as taken.Reducer stands) n)

declaration_at : (l : DeclarationLayer) → BeginsAt (declaration (roll-Declaration l)) (declaration_start_at l)
declaration_at (Declaration-F.Integers c t ds e) = λ n. ap (λ z. (z n).what.0) (fold-roll-Declaration Ar De Dr Ex Fu In Pr St Bl La argument_step declaration_step declarator_step expr_step full_step initializer_step printed_step stmt_step block_step lambda_step (Declaration-F.Integers c t ds e))
declaration_at (Declaration-F.Vector q t x i e) = λ n. ap (λ z. (z n).what.0) (fold-roll-Declaration Ar De Dr Ex Fu In Pr St Bl La argument_step declaration_step declarator_step expr_step full_step initializer_step printed_step stmt_step block_step lambda_step (Declaration-F.Vector q t x i e))
declaration_at (Declaration-F.DeviceVector q x i e) = λ n. ap (λ z. (z n).what.0) (fold-roll-Declaration Ar De Dr Ex Fu In Pr St Bl La argument_step declaration_step declarator_step expr_step full_step initializer_step printed_step stmt_step block_step lambda_step (Declaration-F.DeviceVector q x i e))
declaration_at (Declaration-F.ThreadVector q x e) = λ n. ap (λ z. (z n).what.0) (fold-roll-Declaration Ar De Dr Ex Fu In Pr St Bl La argument_step declaration_step declarator_step expr_step full_step initializer_step printed_step stmt_step block_step lambda_step (Declaration-F.ThreadVector q x e))
declaration_at (Declaration-F.Thread q x b l e) = λ n. ap (λ z. (z n).what.0) (fold-roll-Declaration Ar De Dr Ex Fu In Pr St Bl La argument_step declaration_step declarator_step expr_step full_step initializer_step printed_step stmt_step block_step lambda_step (Declaration-F.Thread q x b l e))
declaration_at (Declaration-F.Object t x i e) = λ n. ap (λ z. (z n).what.0) (fold-roll-Declaration Ar De Dr Ex Fu In Pr St Bl La argument_step declaration_step declarator_step expr_step full_step initializer_step printed_step stmt_step block_step lambda_step (Declaration-F.Object t x i e))

pub declaration_begins : (d : Declaration) (r : Spot) → r ≡ declaration_start d → BeginsAt (declaration d) r
unfolding declaration_start
declaration_begins d r er = λ n. ap (λ z. (declaration z n).what.0) (sym (roll-out-Declaration d)) ∙ declaration_at (out-Declaration d) n ∙ sym er
