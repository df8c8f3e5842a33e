-- No look leaves or enters a thread's lambda: an induction over the tree.
use Rattle.std.proofs.Common.{◌≡◌, refl, sym, subst, ◌∙◌, Bool, true, false, ◌&&◌, ◌||◌, List, [], ◌∷◌, ◌++◌, map, Option, Some, None}
use Rattle.std.specs.Prelude.{⊤}
use Rattle.sy_note.specs.declared.Spot.{Spot}
use Rattle.sy_tree.specs.declared.parts.ConstSpecifier.{ConstSpecifier}
use Rattle.sy_tree.specs.declared.parts.Lexeme.{Lexeme}
use Rattle.sy_tree.specs.declared.parts.TypeSpecifier.{TypeSpecifier}
use Rattle.sy_tree.specs.declared.tree.Argument.{Argument, fold-Argument, fold-roll-Argument, map-Argument, roll-Argument}
use Rattle.sy_tree.specs.declared.tree.Declaration.{Declaration, fold-Declaration, fold-roll-Declaration, map-Declaration, roll-Declaration}
use Rattle.sy_tree.specs.declared.tree.Declarator.{Declarator, fold-Declarator, fold-roll-Declarator, map-Declarator, roll-Declarator}
use Rattle.sy_tree.specs.declared.tree.Expr.{Expr, fold-Expr, fold-roll-Expr, map-Expr, roll-Expr}
use Rattle.sy_tree.specs.declared.tree.FullExpression.{FullExpression, fold-FullExpression, fold-roll-FullExpression, map-FullExpression, roll-FullExpression}
use Rattle.sy_tree.specs.declared.tree.Initializer.{Initializer, fold-Initializer, fold-roll-Initializer, map-Initializer, roll-Initializer}
use Rattle.sy_tree.specs.declared.tree.Printed.{Printed, fold-Printed, fold-roll-Printed, map-Printed, roll-Printed}
use Rattle.sy_tree.specs.declared.tree.Stmt.{Stmt, fold-Stmt, fold-roll-Stmt, map-Stmt, roll-Stmt}
use Rattle.sy_tree.specs.declared.tree.Block.{Block, fold-Block, fold-roll-Block, ind-Block, map-Block, roll-Block}
use Rattle.sy_tree.specs.declared.tree.Lambda.{Lambda, fold-Lambda, fold-roll-Lambda, map-Lambda, roll-Lambda}
use Rattle.sy_tree.specs.declared.tree.Argument.TheOpen.{Argument-F, Block-F, Declaration-F, Declarator-F, Expr-F, FullExpression-F, Initializer-F, Lambda-F, Printed-F, Stmt-F}
use Rattle.sy_typed.specs.declared.things.Thing.TheVariants as thing
use Rattle.sy_typed.specs.declared.tree.TypedStmt.{TypedStmt}
use Rattle.sy_typed.specs.declared.tree.TypedStmt.TheVariants as typed_stmt
use Rattle.sy_rules.specs.declared.library.Role.{Role}
use Rattle.sy_rules.specs.declared.library.Role.TheVariants as role
use Rattle.sy_rules.specs.declared.names.Names.{Names}
use Rattle.sy_rules.specs.declared.names.Taken.{Taken}
use Rattle.sy_rules.specs.declared.names.Taken.TheVariants as taken
use Rattle.sy_rules.specs.declared.names.Within.TheVariants as within
use Rattle.sy_rules.specs.declared.seen.SeenArgument.{SeenArgument}
use Rattle.sy_rules.specs.declared.statements.Shared.{Shared}
use Rattle.sy_rules.specs.declared.statements.Shared.TheVariants as shared
use Rattle.sy_rules.specs.declared.statements.Standing.{Standing}
use Rattle.sy_rules.specs.declared.statements.Standing.TheVariants as standing
use Rattle.sy_rules.specs.Names.{entered, with_setting, where_taken, scoped, declared_variable, look_up}
use Rattle.sy_rules.specs.Outcome.{Outcome, Look, after, foreign_in, in_turn, known_as}
use Rattle.sy_rules.specs.StmtRules.{shared_after, element_given}
use Rattle.sy_rules.specs.Walk.{Ar, De, Dr, Ex, Fu, In, Pr, St, Bl, La, argument_step, declaration_step, declarator_step, expr_step, full_step, initializer_step, printed_step, stmt_step, block_step, lambda_step, expr, stmt, block, declarator_of, part, parts, one_argument, arguments, no_role, taken_by_object, taken_by_library, taken_by_member, taken_before_member, taken_inside, taken_beside, taken_as, one_declarator, declarators, is_constexpr, one_initializer, initialized, placed_at, body, looped, maybe, block_as, ranged_name, ranged_type, ranged_fixed, range_for, returning, branching, while_loop, do_loop, for_loop, trying, role_in}
use Rattle.sy_rules.specs.Words.{member_named}

-- after the look the threads' lambdas round the place are those before it
abbrev Keeps : {T : Type 0} → Look T → Type 0
Keeps a = (n : Names) → (a n).names.threads ≡ n.threads

abbrev AllKeep : {T : Type 0} → List (Look T) → Type 0
AllKeep [] = ⊤
AllKeep (a ∷ more) = Keeps a × AllKeep more

abbrev ArgumentKeeps : Ar → Type 0
ArgumentKeeps (Argument-F.Value a) = Keeps a
ArgumentKeeps (Argument-F.Braced s xs e) = AllKeep xs
ArgumentKeeps (Argument-F.Lambda l) = (r : Role) → Keeps (l r)

abbrev ArgumentsKeep : List Ar → Type 0
ArgumentsKeep [] = ⊤
ArgumentsKeep (a ∷ more) = ArgumentKeeps a × ArgumentsKeep more

abbrev DeclaratorKeeps : Dr → Type 0
DeclaratorKeeps (Declarator-F.Uninitialized x) = ⊤
DeclaratorKeeps (Declarator-F.Equal x s a) = Keeps a
DeclaratorKeeps (Declarator-F.Bracketed x b s a e) = Keeps a

abbrev DeclaratorsKeep : List Dr → Type 0
DeclaratorsKeep [] = ⊤
DeclaratorsKeep (d ∷ more) = DeclaratorKeeps d × DeclaratorsKeep more

abbrev InitializerKeeps : In → Type 0
InitializerKeeps (Initializer-F.Copy s a) = Keeps a
InitializerKeeps (Initializer-F.Direct b s xs e) = ArgumentsKeep xs

-- ---- parts

part_keeps : (k : Taken) (a : Ex) → Keeps a → Keeps (where_taken k a)
part_keeps k a h n = h (with_setting (λ s. record s { taken = k }) n)

two_keep : (k : Taken) (a b : Ex) → Keeps a → Keeps b → (n : Names) → (where_taken k b (where_taken k a n).names).names.threads ≡ n.threads
two_keep k a b g h n = part_keeps k b h (where_taken k a n).names ∙ part_keeps k a g n

all_keep : {T : Type 0} (xs : List (Look T)) → AllKeep xs → Keeps (in_turn xs)
all_keep [] h n = refl
all_keep (a ∷ more) h n = all_keep more h.1 (a n).names ∙ h.0 n

parts_keep : (xs : List Ex) → AllKeep xs → Keeps (parts xs)
parts_keep [] h n = refl
parts_keep (a ∷ more) h n = parts_keep more h.1 (part a n).names ∙ part_keeps taken.Nothing a h.0 n

one_argument_keeps : (k : Taken) (r : Option Role) (a : Ar) → ArgumentKeeps a → Keeps (one_argument k r a)
one_argument_keeps k r (Argument-F.Value a) h n = part_keeps k a h n
one_argument_keeps k r (Argument-F.Braced s xs e) h n = parts_keep xs h n
one_argument_keeps k None (Argument-F.Lambda l) h n = refl
one_argument_keeps k (Some r) (Argument-F.Lambda l) h n = h r n

arguments_keep : (k : Taken) (role : List SeenArgument → Option Role) (before : List SeenArgument) (xs : List Ar) → ArgumentsKeep xs → Keeps (arguments k role before xs)
arguments_keep k role before [] h n = refl
arguments_keep k role before (a ∷ more) h n =
    arguments_keep k role (before ++ ((one_argument k (role before) a n).what.0 ∷ [])) more h.1 (one_argument k (role before) a n).names
    ∙ one_argument_keeps k (role before) a h.0 n

one_declarator_keeps : (must : Bool) (c : Option ConstSpecifier) (t : TypeSpecifier) (first : Shared) (d : Dr) → DeclaratorKeeps d → Keeps (one_declarator must c t first d)
one_declarator_keeps must c t first (Declarator-F.Uninitialized x) h n = refl
one_declarator_keeps must c t first (Declarator-F.Equal x s a) h n = part_keeps taken.Nothing a h n
one_declarator_keeps must c t first (Declarator-F.Bracketed x b s a e) h n = part_keeps taken.Nothing a h n

declarators_keep : (must : Bool) (c : Option ConstSpecifier) (t : TypeSpecifier) (first : Shared) (ds : List Dr) → DeclaratorsKeep ds → Keeps (declarators must c t first ds)
declarators_keep must c t first [] h n = refl
declarators_keep must c t first (d ∷ more) h n =
    declarators_keep must c t (shared_after first (one_declarator must c t first d n).what.0) more h.1 (one_declarator must c t first d n).names
    ∙ one_declarator_keeps must c t first d h.0 n

one_initializer_keeps : (k : Taken) (i : In) → InitializerKeeps i → Keeps (initialized k (Some i))
one_initializer_keeps k (Initializer-F.Copy s a) h n = part_keeps k a h n
one_initializer_keeps k (Initializer-F.Direct b s xs e) h n = arguments_keep k no_role [] xs h n

placed_keeps : (own : Standing) (s : Spot) (n : Names) (o : Outcome TypedStmt) → o.names.threads ≡ n.threads → (placed_at own s n o).names.threads ≡ n.threads
placed_keeps standing.InHead s n o h = h
placed_keeps standing.AsBody s n o h = h
placed_keeps standing.InList s n o h = h

block_as_keeps : (own : Standing) (b : Bl) → Keeps b → Keeps (block_as own b)
block_as_keeps standing.AsBody b h n = h n
block_as_keeps standing.InList b h n = h (entered n)
block_as_keeps standing.InHead b h n = h (entered n)

body_keeps : (s : St) → ((own : Standing) → Keeps (s own)) → Keeps (body s)
body_keeps s h n = h standing.AsBody (entered n)

looped_keeps : {T : Type 0} (a : Look T) → Keeps a → Keeps (looped a)
looped_keeps a h n = h (with_setting (λ s. record s { in_loop = true }) n)

-- ---- the tree
abbrev argument_of : Argument → Ar
argument_of = fold-Argument Ar De Dr Ex Fu In Pr St Bl La argument_step declaration_step declarator_step expr_step full_step initializer_step printed_step stmt_step block_step lambda_step

abbrev declaration_of : Declaration → De
declaration_of = fold-Declaration Ar De Dr Ex Fu In Pr St Bl La argument_step declaration_step declarator_step expr_step full_step initializer_step printed_step stmt_step block_step lambda_step

abbrev full_of : FullExpression → Fu
full_of = fold-FullExpression Ar De Dr Ex Fu In Pr St Bl La argument_step declaration_step declarator_step expr_step full_step initializer_step printed_step stmt_step block_step lambda_step

abbrev initializer_of : Initializer → In
initializer_of = fold-Initializer Ar De Dr Ex Fu In Pr St Bl La argument_step declaration_step declarator_step expr_step full_step initializer_step printed_step stmt_step block_step lambda_step

abbrev printed_of : Printed → Pr
printed_of = fold-Printed Ar De Dr Ex Fu In Pr St Bl La argument_step declaration_step declarator_step expr_step full_step initializer_step printed_step stmt_step block_step lambda_step

abbrev lambda_of : Lambda → La
lambda_of = fold-Lambda Ar De Dr Ex Fu In Pr St Bl La argument_step declaration_step declarator_step expr_step full_step initializer_step printed_step stmt_step block_step lambda_step

abbrev ArgumentClaim : Argument → Type 0
ArgumentClaim x = ArgumentKeeps (argument_of x)

abbrev AnArgument : Type 0
AnArgument = (x : Argument) × ArgumentClaim x

abbrev DeclarationClaim : Declaration → Type 0
DeclarationClaim x = Keeps (declaration_of x)

abbrev ADeclaration : Type 0
ADeclaration = (x : Declaration) × DeclarationClaim x

abbrev DeclaratorClaim : Declarator → Type 0
DeclaratorClaim x = DeclaratorKeeps (declarator_of x)

abbrev ADeclarator : Type 0
ADeclarator = (x : Declarator) × DeclaratorClaim x

abbrev ExprClaim : Expr → Type 0
ExprClaim x = Keeps (expr x)

abbrev AnExpr : Type 0
AnExpr = (x : Expr) × ExprClaim x

abbrev FullExpressionClaim : FullExpression → Type 0
FullExpressionClaim x = (stands : Bool) → Keeps (full_of x stands)

abbrev AFullExpression : Type 0
AFullExpression = (x : FullExpression) × FullExpressionClaim x

abbrev InitializerClaim : Initializer → Type 0
InitializerClaim x = InitializerKeeps (initializer_of x)

abbrev AnInitializer : Type 0
AnInitializer = (x : Initializer) × InitializerClaim x

abbrev PrintedClaim : Printed → Type 0
PrintedClaim x = Keeps (printed_of x)

abbrev APrinted : Type 0
APrinted = (x : Printed) × PrintedClaim x

abbrev StmtClaim : Stmt → Type 0
StmtClaim x = (own : Standing) → Keeps (stmt x own)

abbrev AStmt : Type 0
AStmt = (x : Stmt) × StmtClaim x

abbrev BlockClaim : Block → Type 0
BlockClaim x = Keeps (block x)

abbrev ABlock : Type 0
ABlock = (x : Block) × BlockClaim x

abbrev LambdaClaim : Lambda → Type 0
LambdaClaim x = (r : Role) → Keeps (lambda_of x r)

abbrev ALambda : Type 0
ALambda = (x : Lambda) × LambdaClaim x

all_arguments : (ys : List AnArgument) → ArgumentsKeep (map argument_of (map (λ e. e.0) ys))
all_arguments [] = tt
all_arguments (y ∷ ys) = (y.1, all_arguments ys)

all_declarators : (ys : List ADeclarator) → DeclaratorsKeep (map declarator_of (map (λ e. e.0) ys))
all_declarators [] = tt
all_declarators (y ∷ ys) = (y.1, all_declarators ys)

all_exprs : (ys : List AnExpr) → AllKeep (map expr (map (λ e. e.0) ys))
all_exprs [] = tt
all_exprs (y ∷ ys) = (y.1, all_exprs ys)

all_printed : (ys : List APrinted) → AllKeep (map printed_of (map (λ e. e.0) ys))
all_printed [] = tt
all_printed (y ∷ ys) = (y.1, all_printed ys)

all_stmts : (ys : List AStmt) → AllKeep (map (λ s. s standing.InList) (map stmt (map (λ e. e.0) ys)))
all_stmts [] = tt
all_stmts (y ∷ ys) = (y.1 standing.InList, all_stmts ys)

argument_keeps : (y : Argument-F AnArgument ADeclaration ADeclarator AnExpr AFullExpression AnInitializer APrinted AStmt ABlock ALambda) → ArgumentKeeps (argument_step (map-Argument Argument Declaration Declarator Expr FullExpression Initializer Printed Stmt Block Lambda Ar De Dr Ex Fu In Pr St Bl La argument_of declaration_of declarator_of expr full_of initializer_of printed_of stmt block lambda_of (map-Argument AnArgument ADeclaration ADeclarator AnExpr AFullExpression AnInitializer APrinted AStmt ABlock ALambda Argument Declaration Declarator Expr FullExpression Initializer Printed Stmt Block Lambda (λ e. e.0) (λ e. e.0) (λ e. e.0) (λ e. e.0) (λ e. e.0) (λ e. e.0) (λ e. e.0) (λ e. e.0) (λ e. e.0) (λ e. e.0) y)))
argument_keeps (Argument-F.Value a) = a.1
argument_keeps (Argument-F.Braced s xs e) = all_exprs xs
argument_keeps (Argument-F.Lambda l) = l.1

declaration_keeps : (y : Declaration-F AnArgument ADeclaration ADeclarator AnExpr AFullExpression AnInitializer APrinted AStmt ABlock ALambda) → Keeps (declaration_step (map-Declaration Argument Declaration Declarator Expr FullExpression Initializer Printed Stmt Block Lambda Ar De Dr Ex Fu In Pr St Bl La argument_of declaration_of declarator_of expr full_of initializer_of printed_of stmt block lambda_of (map-Declaration AnArgument ADeclaration ADeclarator AnExpr AFullExpression AnInitializer APrinted AStmt ABlock ALambda Argument Declaration Declarator Expr FullExpression Initializer Printed Stmt Block Lambda (λ e. e.0) (λ e. e.0) (λ e. e.0) (λ e. e.0) (λ e. e.0) (λ e. e.0) (λ e. e.0) (λ e. e.0) (λ e. e.0) (λ e. e.0) y)))
declaration_keeps (Declaration-F.Integers c t ds e) n = declarators_keep (is_constexpr c) c t shared.Unknown (map declarator_of (map (λ e. e.0) ds)) (all_declarators ds) n
declaration_keeps (Declaration-F.Vector q t x None e) n = refl
declaration_keeps (Declaration-F.Vector q t x (Some i) e) n = one_initializer_keeps taken.Nothing (initializer_of i.0) i.1 n
declaration_keeps (Declaration-F.DeviceVector q x None e) n = refl
declaration_keeps (Declaration-F.DeviceVector q x (Some i) e) n = one_initializer_keeps taken.Nothing (initializer_of i.0) i.1 n
declaration_keeps (Declaration-F.ThreadVector q x e) n = refl
declaration_keeps (Declaration-F.Thread q x b l e) n = l.1 (role.Thread n.next) n
declaration_keeps (Declaration-F.Object t x None e) n = refl
declaration_keeps (Declaration-F.Object t x (Some i) e) n = one_initializer_keeps (taken_by_object t) (initializer_of i.0) i.1 n

declarator_keeps : (y : Declarator-F AnArgument ADeclaration ADeclarator AnExpr AFullExpression AnInitializer APrinted AStmt ABlock ALambda) → DeclaratorKeeps (declarator_step (map-Declarator Argument Declaration Declarator Expr FullExpression Initializer Printed Stmt Block Lambda Ar De Dr Ex Fu In Pr St Bl La argument_of declaration_of declarator_of expr full_of initializer_of printed_of stmt block lambda_of (map-Declarator AnArgument ADeclaration ADeclarator AnExpr AFullExpression AnInitializer APrinted AStmt ABlock ALambda Argument Declaration Declarator Expr FullExpression Initializer Printed Stmt Block Lambda (λ e. e.0) (λ e. e.0) (λ e. e.0) (λ e. e.0) (λ e. e.0) (λ e. e.0) (λ e. e.0) (λ e. e.0) (λ e. e.0) (λ e. e.0) y)))
declarator_keeps (Declarator-F.Uninitialized x) = tt
declarator_keeps (Declarator-F.Equal x s a) = a.1
declarator_keeps (Declarator-F.Bracketed x b s a e) = a.1

initializer_keeps : (y : Initializer-F AnArgument ADeclaration ADeclarator AnExpr AFullExpression AnInitializer APrinted AStmt ABlock ALambda) → InitializerKeeps (initializer_step (map-Initializer Argument Declaration Declarator Expr FullExpression Initializer Printed Stmt Block Lambda Ar De Dr Ex Fu In Pr St Bl La argument_of declaration_of declarator_of expr full_of initializer_of printed_of stmt block lambda_of (map-Initializer AnArgument ADeclaration ADeclarator AnExpr AFullExpression AnInitializer APrinted AStmt ABlock ALambda Argument Declaration Declarator Expr FullExpression Initializer Printed Stmt Block Lambda (λ e. e.0) (λ e. e.0) (λ e. e.0) (λ e. e.0) (λ e. e.0) (λ e. e.0) (λ e. e.0) (λ e. e.0) (λ e. e.0) (λ e. e.0) y)))
initializer_keeps (Initializer-F.Copy s a) = a.1
initializer_keeps (Initializer-F.Direct b s xs e) = all_arguments xs

full_keeps : (y : FullExpression-F AnArgument ADeclaration ADeclarator AnExpr AFullExpression AnInitializer APrinted AStmt ABlock ALambda) (stands : Bool) → Keeps ((full_step (map-FullExpression Argument Declaration Declarator Expr FullExpression Initializer Printed Stmt Block Lambda Ar De Dr Ex Fu In Pr St Bl La argument_of declaration_of declarator_of expr full_of initializer_of printed_of stmt block lambda_of (map-FullExpression AnArgument ADeclaration ADeclarator AnExpr AFullExpression AnInitializer APrinted AStmt ABlock ALambda Argument Declaration Declarator Expr FullExpression Initializer Printed Stmt Block Lambda (λ e. e.0) (λ e. e.0) (λ e. e.0) (λ e. e.0) (λ e. e.0) (λ e. e.0) (λ e. e.0) (λ e. e.0) (λ e. e.0) (λ e. e.0) y))) stands)
full_keeps (FullExpression-F.Plain a) stands n = part_keeps (taken_as taken.Statement stands) (expr a.0) a.1 n
full_keeps (FullExpression-F.Assignment t s op v) stands n =
    let m = (where_taken (taken_as taken.Reducer stands) (expr t.0) n).names in
    part_keeps taken.Nothing (expr v.0) v.1 m ∙ part_keeps (taken_as taken.Reducer stands) (expr t.0) t.1 n

printed_keeps : (y : Printed-F AnArgument ADeclaration ADeclarator AnExpr AFullExpression AnInitializer APrinted AStmt ABlock ALambda) → Keeps (printed_step (map-Printed Argument Declaration Declarator Expr FullExpression Initializer Printed Stmt Block Lambda Ar De Dr Ex Fu In Pr St Bl La argument_of declaration_of declarator_of expr full_of initializer_of printed_of stmt block lambda_of (map-Printed AnArgument ADeclaration ADeclarator AnExpr AFullExpression AnInitializer APrinted AStmt ABlock ALambda Argument Declaration Declarator Expr FullExpression Initializer Printed Stmt Block Lambda (λ e. e.0) (λ e. e.0) (λ e. e.0) (λ e. e.0) (λ e. e.0) (λ e. e.0) (λ e. e.0) (λ e. e.0) (λ e. e.0) (λ e. e.0) y)))
printed_keeps (Printed-F.Operand s a) n = part_keeps taken.Nothing (expr a.0) a.1 n
printed_keeps (Printed-F.Text s x) n = refl
printed_keeps (Printed-F.EndLine s q) n = refl

lambda_keeps : (y : Lambda-F AnArgument ADeclaration ADeclarator AnExpr AFullExpression AnInitializer APrinted AStmt ABlock ALambda) (r : Role) → Keeps ((lambda_step (map-Lambda Argument Declaration Declarator Expr FullExpression Initializer Printed Stmt Block Lambda Ar De Dr Ex Fu In Pr St Bl La argument_of declaration_of declarator_of expr full_of initializer_of printed_of stmt block lambda_of (map-Lambda AnArgument ADeclaration ADeclarator AnExpr AFullExpression AnInitializer APrinted AStmt ABlock ALambda Argument Declaration Declarator Expr FullExpression Initializer Printed Stmt Block Lambda (λ e. e.0) (λ e. e.0) (λ e. e.0) (λ e. e.0) (λ e. e.0) (λ e. e.0) (λ e. e.0) (λ e. e.0) (λ e. e.0) (λ e. e.0) y))) r)
lambda_keeps y r n = refl

block_keeps : (y : Block-F AnArgument ADeclaration ADeclarator AnExpr AFullExpression AnInitializer APrinted AStmt ABlock ALambda) → Keeps (block_step (map-Block Argument Declaration Declarator Expr FullExpression Initializer Printed Stmt Block Lambda Ar De Dr Ex Fu In Pr St Bl La argument_of declaration_of declarator_of expr full_of initializer_of printed_of stmt block lambda_of (map-Block AnArgument ADeclaration ADeclarator AnExpr AFullExpression AnInitializer APrinted AStmt ABlock ALambda Argument Declaration Declarator Expr FullExpression Initializer Printed Stmt Block Lambda (λ e. e.0) (λ e. e.0) (λ e. e.0) (λ e. e.0) (λ e. e.0) (λ e. e.0) (λ e. e.0) (λ e. e.0) (λ e. e.0) (λ e. e.0) y)))
block_keeps y n = all_keep (map (λ s. s standing.InList) (map stmt (map (λ e. e.0) y.statements))) (all_stmts y.statements) n

expr_keeps : (y : Expr-F AnArgument ADeclaration ADeclarator AnExpr AFullExpression AnInitializer APrinted AStmt ABlock ALambda) → Keeps (expr_step (map-Expr Argument Declaration Declarator Expr FullExpression Initializer Printed Stmt Block Lambda Ar De Dr Ex Fu In Pr St Bl La argument_of declaration_of declarator_of expr full_of initializer_of printed_of stmt block lambda_of (map-Expr AnArgument ADeclaration ADeclarator AnExpr AFullExpression AnInitializer APrinted AStmt ABlock ALambda Argument Declaration Declarator Expr FullExpression Initializer Printed Stmt Block Lambda (λ e. e.0) (λ e. e.0) (λ e. e.0) (λ e. e.0) (λ e. e.0) (λ e. e.0) (λ e. e.0) (λ e. e.0) (λ e. e.0) (λ e. e.0) y)))
expr_keeps (Expr-F.Integer x) n = refl
expr_keeps (Expr-F.Character x) n = refl
expr_keeps (Expr-F.Boolean s b) n = refl
expr_keeps (Expr-F.Name x) n = refl
expr_keeps (Expr-F.Call f xs e) n = parts_keep (map expr (map (λ e. e.0) xs)) (all_exprs xs) n
expr_keeps (Expr-F.Parenthesized s a e) n = part_keeps (taken_inside n.setting.taken) (expr a.0) a.1 n
expr_keeps (Expr-F.StaticCast s t a e) n = part_keeps taken.Nothing (expr a.0) a.1 n
expr_keeps (Expr-F.FunctionalCast t a e) n = part_keeps taken.Nothing (expr a.0) a.1 n
expr_keeps (Expr-F.Construct t b s xs e) n = arguments_keep (taken_by_object t) no_role [] (map argument_of (map (λ e. e.0) xs)) (all_arguments xs) n
expr_keeps (Expr-F.GroupBarrier q a e) n = part_keeps taken.Nothing (expr a.0) a.1 n
expr_keeps (Expr-F.AccessTag q t) n = refl
expr_keeps (Expr-F.InOrder q b e) n = refl
expr_keeps (Expr-F.ErrorCode q x) n = refl
expr_keeps (Expr-F.InitializeToIdentity q b e) n = refl
expr_keeps (Expr-F.FunctionObject q f t b e) n = refl
expr_keeps (Expr-F.LibraryCall q f xs e) n = arguments_keep (taken_by_library f) no_role [] (map argument_of (map (λ e. e.0) xs)) (all_arguments xs) n
expr_keeps (Expr-F.Subscript a s i e) n = two_keep taken.Nothing (expr a.0) (expr i.0) a.1 i.1 n
expr_keeps (Expr-F.MemberCall a x t xs e) n =
    let k = taken_before_member n.setting.taken (member_named x.text) in
    arguments_keep (taken_by_member (member_named x.text)) (role_in (where_taken k (expr a.0) n).what.0 (member_named x.text)) [] (map argument_of (map (λ e. e.0) xs)) (all_arguments xs) (where_taken k (expr a.0) n).names
    ∙ part_keeps k (expr a.0) a.1 n
expr_keeps (Expr-F.Postfix a s step) n = part_keeps taken.Nothing (expr a.0) a.1 n
expr_keeps (Expr-F.Prefix s step a) n = part_keeps taken.Nothing (expr a.0) a.1 n
expr_keeps (Expr-F.Unary s op a) n = part_keeps taken.Nothing (expr a.0) a.1 n
expr_keeps (Expr-F.Cast s t a) n = part_keeps taken.Nothing (expr a.0) a.1 n
expr_keeps (Expr-F.Binary a s op b) n = two_keep (taken_beside op) (expr a.0) (expr b.0) a.1 b.1 n
expr_keeps (Expr-F.Conditional a s b c) n =
    part_keeps taken.Nothing (expr c.0) c.1 (where_taken taken.Nothing (expr b.0) (where_taken taken.Nothing (expr a.0) n).names).names
    ∙ two_keep taken.Nothing (expr a.0) (expr b.0) a.1 b.1 n

-- ---- statements

branching_keeps : (c : AnExpr) (a : AStmt) (n : Names) → (body (stmt a.0) (where_taken taken.Nothing (expr c.0) n).names).names.threads ≡ n.threads
branching_keeps c a n = body_keeps (stmt a.0) a.1 (where_taken taken.Nothing (expr c.0) n).names ∙ part_keeps taken.Nothing (expr c.0) c.1 n

for_body_keeps : (a : AStmt) (n : Names) → (looped (stmt a.0 standing.AsBody) n).names.threads ≡ n.threads
for_body_keeps a n = looped_keeps (stmt a.0 standing.AsBody) (a.1 standing.AsBody) n

stmt_keeps : (y : Stmt-F AnArgument ADeclaration ADeclarator AnExpr AFullExpression AnInitializer APrinted AStmt ABlock ALambda) (own : Standing) → Keeps ((stmt_step (map-Stmt Argument Declaration Declarator Expr FullExpression Initializer Printed Stmt Block Lambda Ar De Dr Ex Fu In Pr St Bl La argument_of declaration_of declarator_of expr full_of initializer_of printed_of stmt block lambda_of (map-Stmt AnArgument ADeclaration ADeclarator AnExpr AFullExpression AnInitializer APrinted AStmt ABlock ALambda Argument Declaration Declarator Expr FullExpression Initializer Printed Stmt Block Lambda (λ e. e.0) (λ e. e.0) (λ e. e.0) (λ e. e.0) (λ e. e.0) (λ e. e.0) (λ e. e.0) (λ e. e.0) (λ e. e.0) (λ e. e.0) y))) own)
stmt_keeps (Stmt-F.Compound b) own n = block_as_keeps own (block b.0) b.1 n
stmt_keeps (Stmt-F.Null s) own n = refl
stmt_keeps (Stmt-F.Declaration d) own n =
    placed_keeps own (declaration_of d.0 n).what.0 n (known_as (λ p. typed_stmt.Declaration p.1) (declaration_of d.0 n)) (d.1 n)
stmt_keeps (Stmt-F.Expression f e) own n =
    placed_keeps own (full_of f.0 true n).what.0 n (known_as (λ p. typed_stmt.Expression p.1 e) (full_of f.0 true n)) (f.1 true n)
stmt_keeps (Stmt-F.Print q xs e) own n =
    let ys = map printed_of (map (λ e. e.0) xs) in
    placed_keeps own q.namespace n (after (foreign_in true within.Kernel) (known_as (λ ps. typed_stmt.Print ps e) (in_turn ys n))) (all_keep ys (all_printed xs) n)
stmt_keeps (Stmt-F.Break s e) own n = refl
stmt_keeps (Stmt-F.Continue s e) own n = refl
stmt_keeps (Stmt-F.Return s None e) own n = placed_keeps own s n (returning s None e n) refl
stmt_keeps (Stmt-F.Return s (Some a) e) own n = placed_keeps own s n (returning s (Some (expr a.0)) e n) (part_keeps taken.Nothing (expr a.0) a.1 n)
stmt_keeps (Stmt-F.If s c a None) own n = placed_keeps own s n (branching s (expr c.0) (stmt a.0) None n) (branching_keeps c a n)
stmt_keeps (Stmt-F.If s c a (Some b)) own n =
    placed_keeps own s n (branching s (expr c.0) (stmt a.0) (Some (stmt b.0)) n)
    (body_keeps (stmt b.0) b.1 (body (stmt a.0) (where_taken taken.Nothing (expr c.0) n).names).names ∙ branching_keeps c a n)
stmt_keeps (Stmt-F.While s c a) own n =
    placed_keeps own s n (while_loop s (expr c.0) (stmt a.0) n)
    (looped_keeps (body (stmt a.0)) (body_keeps (stmt a.0) a.1) (where_taken taken.Nothing (expr c.0) n).names ∙ part_keeps taken.Nothing (expr c.0) c.1 n)
stmt_keeps (Stmt-F.Do s a c e) own n =
    placed_keeps own s n (do_loop s (stmt a.0) (expr c.0) e n)
    (part_keeps taken.Nothing (expr c.0) c.1 (looped (body (stmt a.0)) n).names ∙ looped_keeps (body (stmt a.0)) (body_keeps (stmt a.0) a.1) n)
stmt_keeps (Stmt-F.For s i None None a) own n =
    let j = (stmt i.0 standing.InHead (entered n)).names in
    placed_keeps own s n (scoped (for_loop s (stmt i.0) None None (stmt a.0)) n) (for_body_keeps a j ∙ i.1 standing.InHead (entered n))
stmt_keeps (Stmt-F.For s i (Some c) None a) own n =
    let j = (stmt i.0 standing.InHead (entered n)).names in
    placed_keeps own s n (scoped (for_loop s (stmt i.0) (Some (expr c.0)) None (stmt a.0)) n)
    (for_body_keeps a (where_taken taken.Nothing (expr c.0) j).names ∙ part_keeps taken.Nothing (expr c.0) c.1 j ∙ i.1 standing.InHead (entered n))
stmt_keeps (Stmt-F.For s i None (Some f) a) own n =
    let j = (stmt i.0 standing.InHead (entered n)).names in
    placed_keeps own s n (scoped (for_loop s (stmt i.0) None (Some (full_of f.0)) (stmt a.0)) n)
    (for_body_keeps a (full_of f.0 false j).names ∙ f.1 false j ∙ i.1 standing.InHead (entered n))
stmt_keeps (Stmt-F.For s i (Some c) (Some f) a) own n =
    let j = (stmt i.0 standing.InHead (entered n)).names in
    let k = (where_taken taken.Nothing (expr c.0) j).names in
    placed_keeps own s n (scoped (for_loop s (stmt i.0) (Some (expr c.0)) (Some (full_of f.0)) (stmt a.0)) n)
    (for_body_keeps a (full_of f.0 false k).names ∙ f.1 false k ∙ part_keeps taken.Nothing (expr c.0) c.1 j ∙ i.1 standing.InHead (entered n))
stmt_keeps (Stmt-F.RangeFor s c t r x v a) own n =
    let found = look_up n.entries v.text in
    placed_keeps own s n (scoped (range_for s c t r x v (stmt a.0)) n)
    (for_body_keeps a (ranged_name r x (element_given t (ranged_type found)) (c || (r && ranged_fixed found)) (entered n)))
stmt_keeps (Stmt-F.Try s a x b) own n =
    placed_keeps own s n (trying s (block a.0) x (block b.0) n)
    (b.1 (declared_variable x (Some thing.Exception) true (entered (scoped (block a.0) n).names)) ∙ a.1 (entered n))

rolled-Argument : (x : Argument-F Argument Declaration Declarator Expr FullExpression Initializer Printed Stmt Block Lambda) (y : Argument-F AnArgument ADeclaration ADeclarator AnExpr AFullExpression AnInitializer APrinted AStmt ABlock ALambda) → map-Argument AnArgument ADeclaration ADeclarator AnExpr AFullExpression AnInitializer APrinted AStmt ABlock ALambda Argument Declaration Declarator Expr FullExpression Initializer Printed Stmt Block Lambda (λ e. e.0) (λ e. e.0) (λ e. e.0) (λ e. e.0) (λ e. e.0) (λ e. e.0) (λ e. e.0) (λ e. e.0) (λ e. e.0) (λ e. e.0) y ≡ x → ArgumentClaim (roll-Argument x)
rolled-Argument x y is =
    let shown : ArgumentClaim (roll-Argument (map-Argument AnArgument ADeclaration ADeclarator AnExpr AFullExpression AnInitializer APrinted AStmt ABlock ALambda Argument Declaration Declarator Expr FullExpression Initializer Printed Stmt Block Lambda (λ e. e.0) (λ e. e.0) (λ e. e.0) (λ e. e.0) (λ e. e.0) (λ e. e.0) (λ e. e.0) (λ e. e.0) (λ e. e.0) (λ e. e.0) y)) = subst (λ m. ArgumentKeeps m) (sym (fold-roll-Argument Ar De Dr Ex Fu In Pr St Bl La argument_step declaration_step declarator_step expr_step full_step initializer_step printed_step stmt_step block_step lambda_step (map-Argument AnArgument ADeclaration ADeclarator AnExpr AFullExpression AnInitializer APrinted AStmt ABlock ALambda Argument Declaration Declarator Expr FullExpression Initializer Printed Stmt Block Lambda (λ e. e.0) (λ e. e.0) (λ e. e.0) (λ e. e.0) (λ e. e.0) (λ e. e.0) (λ e. e.0) (λ e. e.0) (λ e. e.0) (λ e. e.0) y))) (argument_keeps y) in
    subst (λ z. ArgumentClaim (roll-Argument z)) is shown

rolled-Declaration : (x : Declaration-F Argument Declaration Declarator Expr FullExpression Initializer Printed Stmt Block Lambda) (y : Declaration-F AnArgument ADeclaration ADeclarator AnExpr AFullExpression AnInitializer APrinted AStmt ABlock ALambda) → map-Declaration AnArgument ADeclaration ADeclarator AnExpr AFullExpression AnInitializer APrinted AStmt ABlock ALambda Argument Declaration Declarator Expr FullExpression Initializer Printed Stmt Block Lambda (λ e. e.0) (λ e. e.0) (λ e. e.0) (λ e. e.0) (λ e. e.0) (λ e. e.0) (λ e. e.0) (λ e. e.0) (λ e. e.0) (λ e. e.0) y ≡ x → DeclarationClaim (roll-Declaration x)
rolled-Declaration x y is =
    let shown : DeclarationClaim (roll-Declaration (map-Declaration AnArgument ADeclaration ADeclarator AnExpr AFullExpression AnInitializer APrinted AStmt ABlock ALambda Argument Declaration Declarator Expr FullExpression Initializer Printed Stmt Block Lambda (λ e. e.0) (λ e. e.0) (λ e. e.0) (λ e. e.0) (λ e. e.0) (λ e. e.0) (λ e. e.0) (λ e. e.0) (λ e. e.0) (λ e. e.0) y)) = subst (λ m. Keeps m) (sym (fold-roll-Declaration Ar De Dr Ex Fu In Pr St Bl La argument_step declaration_step declarator_step expr_step full_step initializer_step printed_step stmt_step block_step lambda_step (map-Declaration AnArgument ADeclaration ADeclarator AnExpr AFullExpression AnInitializer APrinted AStmt ABlock ALambda Argument Declaration Declarator Expr FullExpression Initializer Printed Stmt Block Lambda (λ e. e.0) (λ e. e.0) (λ e. e.0) (λ e. e.0) (λ e. e.0) (λ e. e.0) (λ e. e.0) (λ e. e.0) (λ e. e.0) (λ e. e.0) y))) (declaration_keeps y) in
    subst (λ z. DeclarationClaim (roll-Declaration z)) is shown

rolled-Declarator : (x : Declarator-F Argument Declaration Declarator Expr FullExpression Initializer Printed Stmt Block Lambda) (y : Declarator-F AnArgument ADeclaration ADeclarator AnExpr AFullExpression AnInitializer APrinted AStmt ABlock ALambda) → map-Declarator AnArgument ADeclaration ADeclarator AnExpr AFullExpression AnInitializer APrinted AStmt ABlock ALambda Argument Declaration Declarator Expr FullExpression Initializer Printed Stmt Block Lambda (λ e. e.0) (λ e. e.0) (λ e. e.0) (λ e. e.0) (λ e. e.0) (λ e. e.0) (λ e. e.0) (λ e. e.0) (λ e. e.0) (λ e. e.0) y ≡ x → DeclaratorClaim (roll-Declarator x)
rolled-Declarator x y is =
    let shown : DeclaratorClaim (roll-Declarator (map-Declarator AnArgument ADeclaration ADeclarator AnExpr AFullExpression AnInitializer APrinted AStmt ABlock ALambda Argument Declaration Declarator Expr FullExpression Initializer Printed Stmt Block Lambda (λ e. e.0) (λ e. e.0) (λ e. e.0) (λ e. e.0) (λ e. e.0) (λ e. e.0) (λ e. e.0) (λ e. e.0) (λ e. e.0) (λ e. e.0) y)) = subst (λ m. DeclaratorKeeps m) (sym (fold-roll-Declarator Ar De Dr Ex Fu In Pr St Bl La argument_step declaration_step declarator_step expr_step full_step initializer_step printed_step stmt_step block_step lambda_step (map-Declarator AnArgument ADeclaration ADeclarator AnExpr AFullExpression AnInitializer APrinted AStmt ABlock ALambda Argument Declaration Declarator Expr FullExpression Initializer Printed Stmt Block Lambda (λ e. e.0) (λ e. e.0) (λ e. e.0) (λ e. e.0) (λ e. e.0) (λ e. e.0) (λ e. e.0) (λ e. e.0) (λ e. e.0) (λ e. e.0) y))) (declarator_keeps y) in
    subst (λ z. DeclaratorClaim (roll-Declarator z)) is shown

rolled-Expr : (x : Expr-F Argument Declaration Declarator Expr FullExpression Initializer Printed Stmt Block Lambda) (y : Expr-F AnArgument ADeclaration ADeclarator AnExpr AFullExpression AnInitializer APrinted AStmt ABlock ALambda) → map-Expr AnArgument ADeclaration ADeclarator AnExpr AFullExpression AnInitializer APrinted AStmt ABlock ALambda Argument Declaration Declarator Expr FullExpression Initializer Printed Stmt Block Lambda (λ e. e.0) (λ e. e.0) (λ e. e.0) (λ e. e.0) (λ e. e.0) (λ e. e.0) (λ e. e.0) (λ e. e.0) (λ e. e.0) (λ e. e.0) y ≡ x → ExprClaim (roll-Expr x)
rolled-Expr x y is =
    let shown : ExprClaim (roll-Expr (map-Expr AnArgument ADeclaration ADeclarator AnExpr AFullExpression AnInitializer APrinted AStmt ABlock ALambda Argument Declaration Declarator Expr FullExpression Initializer Printed Stmt Block Lambda (λ e. e.0) (λ e. e.0) (λ e. e.0) (λ e. e.0) (λ e. e.0) (λ e. e.0) (λ e. e.0) (λ e. e.0) (λ e. e.0) (λ e. e.0) y)) = subst (λ m. Keeps m) (sym (fold-roll-Expr Ar De Dr Ex Fu In Pr St Bl La argument_step declaration_step declarator_step expr_step full_step initializer_step printed_step stmt_step block_step lambda_step (map-Expr AnArgument ADeclaration ADeclarator AnExpr AFullExpression AnInitializer APrinted AStmt ABlock ALambda Argument Declaration Declarator Expr FullExpression Initializer Printed Stmt Block Lambda (λ e. e.0) (λ e. e.0) (λ e. e.0) (λ e. e.0) (λ e. e.0) (λ e. e.0) (λ e. e.0) (λ e. e.0) (λ e. e.0) (λ e. e.0) y))) (expr_keeps y) in
    subst (λ z. ExprClaim (roll-Expr z)) is shown

rolled-FullExpression : (x : FullExpression-F Argument Declaration Declarator Expr FullExpression Initializer Printed Stmt Block Lambda) (y : FullExpression-F AnArgument ADeclaration ADeclarator AnExpr AFullExpression AnInitializer APrinted AStmt ABlock ALambda) → map-FullExpression AnArgument ADeclaration ADeclarator AnExpr AFullExpression AnInitializer APrinted AStmt ABlock ALambda Argument Declaration Declarator Expr FullExpression Initializer Printed Stmt Block Lambda (λ e. e.0) (λ e. e.0) (λ e. e.0) (λ e. e.0) (λ e. e.0) (λ e. e.0) (λ e. e.0) (λ e. e.0) (λ e. e.0) (λ e. e.0) y ≡ x → FullExpressionClaim (roll-FullExpression x)
rolled-FullExpression x y is =
    let shown : FullExpressionClaim (roll-FullExpression (map-FullExpression AnArgument ADeclaration ADeclarator AnExpr AFullExpression AnInitializer APrinted AStmt ABlock ALambda Argument Declaration Declarator Expr FullExpression Initializer Printed Stmt Block Lambda (λ e. e.0) (λ e. e.0) (λ e. e.0) (λ e. e.0) (λ e. e.0) (λ e. e.0) (λ e. e.0) (λ e. e.0) (λ e. e.0) (λ e. e.0) y)) = subst (λ m. (stands : Bool) → Keeps (m stands)) (sym (fold-roll-FullExpression Ar De Dr Ex Fu In Pr St Bl La argument_step declaration_step declarator_step expr_step full_step initializer_step printed_step stmt_step block_step lambda_step (map-FullExpression AnArgument ADeclaration ADeclarator AnExpr AFullExpression AnInitializer APrinted AStmt ABlock ALambda Argument Declaration Declarator Expr FullExpression Initializer Printed Stmt Block Lambda (λ e. e.0) (λ e. e.0) (λ e. e.0) (λ e. e.0) (λ e. e.0) (λ e. e.0) (λ e. e.0) (λ e. e.0) (λ e. e.0) (λ e. e.0) y))) (full_keeps y) in
    subst (λ z. FullExpressionClaim (roll-FullExpression z)) is shown

rolled-Initializer : (x : Initializer-F Argument Declaration Declarator Expr FullExpression Initializer Printed Stmt Block Lambda) (y : Initializer-F AnArgument ADeclaration ADeclarator AnExpr AFullExpression AnInitializer APrinted AStmt ABlock ALambda) → map-Initializer AnArgument ADeclaration ADeclarator AnExpr AFullExpression AnInitializer APrinted AStmt ABlock ALambda Argument Declaration Declarator Expr FullExpression Initializer Printed Stmt Block Lambda (λ e. e.0) (λ e. e.0) (λ e. e.0) (λ e. e.0) (λ e. e.0) (λ e. e.0) (λ e. e.0) (λ e. e.0) (λ e. e.0) (λ e. e.0) y ≡ x → InitializerClaim (roll-Initializer x)
rolled-Initializer x y is =
    let shown : InitializerClaim (roll-Initializer (map-Initializer AnArgument ADeclaration ADeclarator AnExpr AFullExpression AnInitializer APrinted AStmt ABlock ALambda Argument Declaration Declarator Expr FullExpression Initializer Printed Stmt Block Lambda (λ e. e.0) (λ e. e.0) (λ e. e.0) (λ e. e.0) (λ e. e.0) (λ e. e.0) (λ e. e.0) (λ e. e.0) (λ e. e.0) (λ e. e.0) y)) = subst (λ m. InitializerKeeps m) (sym (fold-roll-Initializer Ar De Dr Ex Fu In Pr St Bl La argument_step declaration_step declarator_step expr_step full_step initializer_step printed_step stmt_step block_step lambda_step (map-Initializer AnArgument ADeclaration ADeclarator AnExpr AFullExpression AnInitializer APrinted AStmt ABlock ALambda Argument Declaration Declarator Expr FullExpression Initializer Printed Stmt Block Lambda (λ e. e.0) (λ e. e.0) (λ e. e.0) (λ e. e.0) (λ e. e.0) (λ e. e.0) (λ e. e.0) (λ e. e.0) (λ e. e.0) (λ e. e.0) y))) (initializer_keeps y) in
    subst (λ z. InitializerClaim (roll-Initializer z)) is shown

rolled-Printed : (x : Printed-F Argument Declaration Declarator Expr FullExpression Initializer Printed Stmt Block Lambda) (y : Printed-F AnArgument ADeclaration ADeclarator AnExpr AFullExpression AnInitializer APrinted AStmt ABlock ALambda) → map-Printed AnArgument ADeclaration ADeclarator AnExpr AFullExpression AnInitializer APrinted AStmt ABlock ALambda Argument Declaration Declarator Expr FullExpression Initializer Printed Stmt Block Lambda (λ e. e.0) (λ e. e.0) (λ e. e.0) (λ e. e.0) (λ e. e.0) (λ e. e.0) (λ e. e.0) (λ e. e.0) (λ e. e.0) (λ e. e.0) y ≡ x → PrintedClaim (roll-Printed x)
rolled-Printed x y is =
    let shown : PrintedClaim (roll-Printed (map-Printed AnArgument ADeclaration ADeclarator AnExpr AFullExpression AnInitializer APrinted AStmt ABlock ALambda Argument Declaration Declarator Expr FullExpression Initializer Printed Stmt Block Lambda (λ e. e.0) (λ e. e.0) (λ e. e.0) (λ e. e.0) (λ e. e.0) (λ e. e.0) (λ e. e.0) (λ e. e.0) (λ e. e.0) (λ e. e.0) y)) = subst (λ m. Keeps m) (sym (fold-roll-Printed Ar De Dr Ex Fu In Pr St Bl La argument_step declaration_step declarator_step expr_step full_step initializer_step printed_step stmt_step block_step lambda_step (map-Printed AnArgument ADeclaration ADeclarator AnExpr AFullExpression AnInitializer APrinted AStmt ABlock ALambda Argument Declaration Declarator Expr FullExpression Initializer Printed Stmt Block Lambda (λ e. e.0) (λ e. e.0) (λ e. e.0) (λ e. e.0) (λ e. e.0) (λ e. e.0) (λ e. e.0) (λ e. e.0) (λ e. e.0) (λ e. e.0) y))) (printed_keeps y) in
    subst (λ z. PrintedClaim (roll-Printed z)) is shown

rolled-Stmt : (x : Stmt-F Argument Declaration Declarator Expr FullExpression Initializer Printed Stmt Block Lambda) (y : Stmt-F AnArgument ADeclaration ADeclarator AnExpr AFullExpression AnInitializer APrinted AStmt ABlock ALambda) → map-Stmt AnArgument ADeclaration ADeclarator AnExpr AFullExpression AnInitializer APrinted AStmt ABlock ALambda Argument Declaration Declarator Expr FullExpression Initializer Printed Stmt Block Lambda (λ e. e.0) (λ e. e.0) (λ e. e.0) (λ e. e.0) (λ e. e.0) (λ e. e.0) (λ e. e.0) (λ e. e.0) (λ e. e.0) (λ e. e.0) y ≡ x → StmtClaim (roll-Stmt x)
rolled-Stmt x y is =
    let shown : StmtClaim (roll-Stmt (map-Stmt AnArgument ADeclaration ADeclarator AnExpr AFullExpression AnInitializer APrinted AStmt ABlock ALambda Argument Declaration Declarator Expr FullExpression Initializer Printed Stmt Block Lambda (λ e. e.0) (λ e. e.0) (λ e. e.0) (λ e. e.0) (λ e. e.0) (λ e. e.0) (λ e. e.0) (λ e. e.0) (λ e. e.0) (λ e. e.0) y)) = subst (λ m. (own : Standing) → Keeps (m own)) (sym (fold-roll-Stmt Ar De Dr Ex Fu In Pr St Bl La argument_step declaration_step declarator_step expr_step full_step initializer_step printed_step stmt_step block_step lambda_step (map-Stmt AnArgument ADeclaration ADeclarator AnExpr AFullExpression AnInitializer APrinted AStmt ABlock ALambda Argument Declaration Declarator Expr FullExpression Initializer Printed Stmt Block Lambda (λ e. e.0) (λ e. e.0) (λ e. e.0) (λ e. e.0) (λ e. e.0) (λ e. e.0) (λ e. e.0) (λ e. e.0) (λ e. e.0) (λ e. e.0) y))) (stmt_keeps y) in
    subst (λ z. StmtClaim (roll-Stmt z)) is shown

rolled-Block : (x : Block-F Argument Declaration Declarator Expr FullExpression Initializer Printed Stmt Block Lambda) (y : Block-F AnArgument ADeclaration ADeclarator AnExpr AFullExpression AnInitializer APrinted AStmt ABlock ALambda) → map-Block AnArgument ADeclaration ADeclarator AnExpr AFullExpression AnInitializer APrinted AStmt ABlock ALambda Argument Declaration Declarator Expr FullExpression Initializer Printed Stmt Block Lambda (λ e. e.0) (λ e. e.0) (λ e. e.0) (λ e. e.0) (λ e. e.0) (λ e. e.0) (λ e. e.0) (λ e. e.0) (λ e. e.0) (λ e. e.0) y ≡ x → BlockClaim (roll-Block x)
rolled-Block x y is =
    let shown : BlockClaim (roll-Block (map-Block AnArgument ADeclaration ADeclarator AnExpr AFullExpression AnInitializer APrinted AStmt ABlock ALambda Argument Declaration Declarator Expr FullExpression Initializer Printed Stmt Block Lambda (λ e. e.0) (λ e. e.0) (λ e. e.0) (λ e. e.0) (λ e. e.0) (λ e. e.0) (λ e. e.0) (λ e. e.0) (λ e. e.0) (λ e. e.0) y)) = subst (λ m. Keeps m) (sym (fold-roll-Block Ar De Dr Ex Fu In Pr St Bl La argument_step declaration_step declarator_step expr_step full_step initializer_step printed_step stmt_step block_step lambda_step (map-Block AnArgument ADeclaration ADeclarator AnExpr AFullExpression AnInitializer APrinted AStmt ABlock ALambda Argument Declaration Declarator Expr FullExpression Initializer Printed Stmt Block Lambda (λ e. e.0) (λ e. e.0) (λ e. e.0) (λ e. e.0) (λ e. e.0) (λ e. e.0) (λ e. e.0) (λ e. e.0) (λ e. e.0) (λ e. e.0) y))) (block_keeps y) in
    subst (λ z. BlockClaim (roll-Block z)) is shown

rolled-Lambda : (x : Lambda-F Argument Declaration Declarator Expr FullExpression Initializer Printed Stmt Block Lambda) (y : Lambda-F AnArgument ADeclaration ADeclarator AnExpr AFullExpression AnInitializer APrinted AStmt ABlock ALambda) → map-Lambda AnArgument ADeclaration ADeclarator AnExpr AFullExpression AnInitializer APrinted AStmt ABlock ALambda Argument Declaration Declarator Expr FullExpression Initializer Printed Stmt Block Lambda (λ e. e.0) (λ e. e.0) (λ e. e.0) (λ e. e.0) (λ e. e.0) (λ e. e.0) (λ e. e.0) (λ e. e.0) (λ e. e.0) (λ e. e.0) y ≡ x → LambdaClaim (roll-Lambda x)
rolled-Lambda x y is =
    let shown : LambdaClaim (roll-Lambda (map-Lambda AnArgument ADeclaration ADeclarator AnExpr AFullExpression AnInitializer APrinted AStmt ABlock ALambda Argument Declaration Declarator Expr FullExpression Initializer Printed Stmt Block Lambda (λ e. e.0) (λ e. e.0) (λ e. e.0) (λ e. e.0) (λ e. e.0) (λ e. e.0) (λ e. e.0) (λ e. e.0) (λ e. e.0) (λ e. e.0) y)) = subst (λ m. (r : Role) → Keeps (m r)) (sym (fold-roll-Lambda Ar De Dr Ex Fu In Pr St Bl La argument_step declaration_step declarator_step expr_step full_step initializer_step printed_step stmt_step block_step lambda_step (map-Lambda AnArgument ADeclaration ADeclarator AnExpr AFullExpression AnInitializer APrinted AStmt ABlock ALambda Argument Declaration Declarator Expr FullExpression Initializer Printed Stmt Block Lambda (λ e. e.0) (λ e. e.0) (λ e. e.0) (λ e. e.0) (λ e. e.0) (λ e. e.0) (λ e. e.0) (λ e. e.0) (λ e. e.0) (λ e. e.0) y))) (lambda_keeps y) in
    subst (λ z. LambdaClaim (roll-Lambda z)) is shown

pub block_keeps_threads : (b : Block) (n : Names) → (block b n).names.threads ≡ n.threads
block_keeps_threads = ind-Block ArgumentClaim DeclarationClaim DeclaratorClaim ExprClaim FullExpressionClaim InitializerClaim PrintedClaim StmtClaim BlockClaim LambdaClaim rolled-Argument rolled-Declaration rolled-Declarator rolled-Expr rolled-FullExpression rolled-Initializer rolled-Printed rolled-Stmt rolled-Block rolled-Lambda
