-- Whatever a look finds broken is of typing: an induction over the tree.
use Rattle.std.proofs.Common.{◌≡◌, sym, subst, ◌+◌, Bool, true, false, not, ◌&&◌, ◌||◌, List, [], ◌∷◌, map, Option, Some, None}
use Rattle.sy_tree.specs.declared.parts.Capture.{Capture}
use Rattle.sy_tree.specs.declared.parts.LambdaParameter.{LambdaParameter}
use Rattle.sy_tree.specs.declared.parts.ObjectType.{ObjectType}
use Rattle.sy_tree.specs.declared.tree.Argument.{Argument, fold-Argument, fold-roll-Argument, map-Argument, roll-Argument}
use Rattle.sy_tree.specs.declared.tree.Declaration.{Declaration, fold-Declaration, fold-roll-Declaration, map-Declaration, roll-Declaration}
use Rattle.sy_tree.specs.declared.tree.Declarator.{Declarator, fold-roll-Declarator, ind-Declarator, map-Declarator, roll-Declarator}
use Rattle.sy_tree.specs.declared.tree.Expr.{Expr, fold-roll-Expr, map-Expr, roll-Expr}
use Rattle.sy_tree.specs.declared.tree.FullExpression.{FullExpression, fold-FullExpression, fold-roll-FullExpression, map-FullExpression, roll-FullExpression}
use Rattle.sy_tree.specs.declared.tree.Initializer.{Initializer, fold-Initializer, fold-roll-Initializer, map-Initializer, roll-Initializer}
use Rattle.sy_tree.specs.declared.tree.Printed.{Printed, fold-Printed, fold-roll-Printed, map-Printed, roll-Printed}
use Rattle.sy_tree.specs.declared.tree.Stmt.{Stmt, fold-roll-Stmt, map-Stmt, roll-Stmt}
use Rattle.sy_tree.specs.declared.tree.Block.{Block, fold-roll-Block, ind-Block, map-Block, roll-Block}
use Rattle.sy_tree.specs.declared.tree.Lambda.{Lambda, fold-Lambda, fold-roll-Lambda, map-Lambda, roll-Lambda}
use Rattle.sy_tree.specs.declared.tree.Argument.TheOpen.{Argument-F, Block-F, Declaration-F, Declarator-F, Expr-F, FullExpression-F, Initializer-F, Lambda-F, Printed-F, Stmt-F}
use Rattle.sy_typed.specs.declared.things.Thing.TheVariants as thing
use Rattle.sy_rules.specs.declared.library.Role.{Role}
use Rattle.sy_rules.specs.declared.library.Role.TheVariants as role
use Rattle.sy_rules.specs.declared.names.Names.{Names}
use Rattle.sy_rules.specs.declared.names.Taken.TheVariants as taken
use Rattle.sy_rules.specs.declared.names.ThreadScope.{ThreadScope}
use Rattle.sy_rules.specs.declared.names.Within.TheVariants as within
use Rattle.sy_rules.specs.declared.statements.Shared.TheVariants as shared
use Rattle.sy_rules.specs.declared.statements.Standing.{Standing}
use Rattle.sy_rules.specs.declared.statements.Standing.TheVariants as standing
use Rattle.sy_rules.specs.Foreign.{is_host, is_made_in, made_in_kernels, made_in_groups, foreign_everywhere}
use Rattle.sy_rules.specs.Lambdas.{thread_scope, listed}
use Rattle.sy_rules.specs.Names.{entered, where_taken, scoped, with_setting, declared_variable, look_up}
use Rattle.sy_rules.specs.Outcome.{foreign_in}
use Rattle.sy_rules.specs.Walk.{Ar, De, Dr, Ex, Fu, In, Pr, St, Bl, La, argument_step, declaration_step, declarator_step, expr_step, full_step, initializer_step, printed_step, stmt_step, block_step, lambda_step, expr, stmt, block, declarator_of, part, parts, arguments, no_role, initialized, foreign_object, taken_by_object, taken_by_library, taken_by_member, taken_before_member, taken_inside, taken_beside, taken_as, role_in, seen_of, is_constexpr, body, looped, range_found, ranged_name, ranged_type, ranged_fixed, all_captures, lambda_parts, inside, within_thread}
use Rattle.sy_rules.specs.StmtRules.{element_given}
use Rattle.sy_rules.specs.Words.{member_named}
use Rattle.sy_rulelaws.proofs.CodeLemmas.{AllFound, none_found, found_append, found_at_found, found_faults, foreign_found, everywhere_found, object_typing, vector_typing, device_vector_typing, plain_typing, printed_typing, range_found_found}
use Rattle.sy_rulelaws.proofs.LookLemmas.{Clean, AllClean, ArgumentClean, ArgumentsClean, DeclaratorClean, DeclaratorsClean, InitializerClean, part_clean, one_part_found, all_clean, parts_clean, arguments_clean, full_found, declarators_clean, initialized_clean, object_found, placed_clean, stmt_found, body_clean, looped_clean, block_as_clean, captures_clean, parameters_and_body_clean, lambda_clean}

-- ---- the tree

abbrev argument_of : Argument → Ar
argument_of = fold-Argument Ar De Dr Ex Fu In Pr St Bl La argument_step declaration_step declarator_step expr_step full_step initializer_step printed_step stmt_step block_step lambda_step

abbrev declaration_of : Declaration → De
declaration_of = fold-Declaration Ar De Dr Ex Fu In Pr St Bl La argument_step declaration_step declarator_step expr_step full_step initializer_step printed_step stmt_step block_step lambda_step

abbrev full_of : FullExpression → Fu
full_of = fold-FullExpression Ar De Dr Ex Fu In Pr St Bl La argument_step declaration_step declarator_step expr_step full_step initializer_step printed_step stmt_step block_step lambda_step

abbrev initializer_of : Initializer → In
initializer_of = fold-Initializer Ar De Dr Ex Fu In Pr St Bl La argument_step declaration_step declarator_step expr_step full_step initializer_step printed_step stmt_step block_step lambda_step

abbrev printed_of : Printed → Pr
printed_of = fold-Printed Ar De Dr Ex Fu In Pr St Bl La argument_step declaration_step declarator_step expr_step full_step initializer_step printed_step stmt_step block_step lambda_step

abbrev lambda_of : Lambda → La
lambda_of = fold-Lambda Ar De Dr Ex Fu In Pr St Bl La argument_step declaration_step declarator_step expr_step full_step initializer_step printed_step stmt_step block_step lambda_step

abbrev ArgumentClaim : Argument → Type 0
ArgumentClaim x = ArgumentClean (argument_of x)

abbrev AnArgument : Type 0
AnArgument = (x : Argument) × ArgumentClaim x

abbrev DeclarationClaim : Declaration → Type 0
DeclarationClaim x = Clean (declaration_of x)

abbrev ADeclaration : Type 0
ADeclaration = (x : Declaration) × DeclarationClaim x

abbrev pub DeclaratorClaim : Declarator → Type 0
DeclaratorClaim x = DeclaratorClean (declarator_of x)

abbrev ADeclarator : Type 0
ADeclarator = (x : Declarator) × DeclaratorClaim x

abbrev ExprClaim : Expr → Type 0
ExprClaim x = Clean (expr x)

abbrev AnExpr : Type 0
AnExpr = (x : Expr) × ExprClaim x

abbrev FullExpressionClaim : FullExpression → Type 0
FullExpressionClaim x = (stands : Bool) → Clean (full_of x stands)

abbrev AFullExpression : Type 0
AFullExpression = (x : FullExpression) × FullExpressionClaim x

abbrev InitializerClaim : Initializer → Type 0
InitializerClaim x = InitializerClean (initializer_of x)

abbrev AnInitializer : Type 0
AnInitializer = (x : Initializer) × InitializerClaim x

abbrev PrintedClaim : Printed → Type 0
PrintedClaim x = Clean (printed_of x)

abbrev APrinted : Type 0
APrinted = (x : Printed) × PrintedClaim x

abbrev StmtClaim : Stmt → Type 0
StmtClaim x = (own : Standing) → Clean (stmt x own)

abbrev AStmt : Type 0
AStmt = (x : Stmt) × StmtClaim x

abbrev pub BlockClaim : Block → Type 0
BlockClaim x = Clean (block x)

abbrev ABlock : Type 0
ABlock = (x : Block) × BlockClaim x

abbrev LambdaClaim : Lambda → Type 0
LambdaClaim x = (r : Role) → Clean (lambda_of x r)

abbrev ALambda : Type 0
ALambda = (x : Lambda) × LambdaClaim x

all_arguments : (ys : List AnArgument) → ArgumentsClean (map argument_of (map (λ e. e.0) ys))
all_arguments [] = tt
all_arguments (y ∷ ys) = (y.1, all_arguments ys)

all_declarators : (ys : List ADeclarator) → DeclaratorsClean (map declarator_of (map (λ e. e.0) ys))
all_declarators [] = tt
all_declarators (y ∷ ys) = (y.1, all_declarators ys)

all_exprs : (ys : List AnExpr) → AllClean (map expr (map (λ e. e.0) ys))
all_exprs [] = tt
all_exprs (y ∷ ys) = (y.1, all_exprs ys)

all_printed : (ys : List APrinted) → AllClean (map printed_of (map (λ e. e.0) ys))
all_printed [] = tt
all_printed (y ∷ ys) = (y.1, all_printed ys)

all_stmts : (ys : List AStmt) → AllClean (map (λ s. s standing.InList) (map stmt (map (λ e. e.0) ys)))
all_stmts [] = tt
all_stmts (y ∷ ys) = (y.1 standing.InList, all_stmts ys)

argument_clean : (y : Argument-F AnArgument ADeclaration ADeclarator AnExpr AFullExpression AnInitializer APrinted AStmt ABlock ALambda) → ArgumentClean (argument_step (map-Argument Argument Declaration Declarator Expr FullExpression Initializer Printed Stmt Block Lambda Ar De Dr Ex Fu In Pr St Bl La argument_of declaration_of declarator_of expr full_of initializer_of printed_of stmt block lambda_of (map-Argument AnArgument ADeclaration ADeclarator AnExpr AFullExpression AnInitializer APrinted AStmt ABlock ALambda Argument Declaration Declarator Expr FullExpression Initializer Printed Stmt Block Lambda (λ e. e.0) (λ e. e.0) (λ e. e.0) (λ e. e.0) (λ e. e.0) (λ e. e.0) (λ e. e.0) (λ e. e.0) (λ e. e.0) (λ e. e.0) y)))
argument_clean (Argument-F.Value a) = a.1
argument_clean (Argument-F.Braced s xs e) = all_exprs xs
argument_clean (Argument-F.Lambda l) = l.1

declarator_clean : (y : Declarator-F AnArgument ADeclaration ADeclarator AnExpr AFullExpression AnInitializer APrinted AStmt ABlock ALambda) → DeclaratorClean (declarator_step (map-Declarator Argument Declaration Declarator Expr FullExpression Initializer Printed Stmt Block Lambda Ar De Dr Ex Fu In Pr St Bl La argument_of declaration_of declarator_of expr full_of initializer_of printed_of stmt block lambda_of (map-Declarator AnArgument ADeclaration ADeclarator AnExpr AFullExpression AnInitializer APrinted AStmt ABlock ALambda Argument Declaration Declarator Expr FullExpression Initializer Printed Stmt Block Lambda (λ e. e.0) (λ e. e.0) (λ e. e.0) (λ e. e.0) (λ e. e.0) (λ e. e.0) (λ e. e.0) (λ e. e.0) (λ e. e.0) (λ e. e.0) y)))
declarator_clean (Declarator-F.Uninitialized x) = tt
declarator_clean (Declarator-F.Equal x s a) = a.1
declarator_clean (Declarator-F.Bracketed x b s a e) = a.1

initializer_clean : (y : Initializer-F AnArgument ADeclaration ADeclarator AnExpr AFullExpression AnInitializer APrinted AStmt ABlock ALambda) → InitializerClean (initializer_step (map-Initializer Argument Declaration Declarator Expr FullExpression Initializer Printed Stmt Block Lambda Ar De Dr Ex Fu In Pr St Bl La argument_of declaration_of declarator_of expr full_of initializer_of printed_of stmt block lambda_of (map-Initializer AnArgument ADeclaration ADeclarator AnExpr AFullExpression AnInitializer APrinted AStmt ABlock ALambda Argument Declaration Declarator Expr FullExpression Initializer Printed Stmt Block Lambda (λ e. e.0) (λ e. e.0) (λ e. e.0) (λ e. e.0) (λ e. e.0) (λ e. e.0) (λ e. e.0) (λ e. e.0) (λ e. e.0) (λ e. e.0) y)))
initializer_clean (Initializer-F.Copy s a) = a.1
initializer_clean (Initializer-F.Direct b s xs e) = all_arguments xs

foreign_object_found : (t : ObjectType) → AllFound (foreign_object t)
foreign_object_found t =
    found_append (foreign_in (not (made_in_kernels t)) within.Kernel) (foreign_in (not (made_in_groups t)) within.Group) (foreign_found (not (made_in_kernels t)) within.Kernel) (foreign_found (not (made_in_groups t)) within.Group)

declaration_clean : (y : Declaration-F AnArgument ADeclaration ADeclarator AnExpr AFullExpression AnInitializer APrinted AStmt ABlock ALambda) → Clean (declaration_step (map-Declaration Argument Declaration Declarator Expr FullExpression Initializer Printed Stmt Block Lambda Ar De Dr Ex Fu In Pr St Bl La argument_of declaration_of declarator_of expr full_of initializer_of printed_of stmt block lambda_of (map-Declaration AnArgument ADeclaration ADeclarator AnExpr AFullExpression AnInitializer APrinted AStmt ABlock ALambda Argument Declaration Declarator Expr FullExpression Initializer Printed Stmt Block Lambda (λ e. e.0) (λ e. e.0) (λ e. e.0) (λ e. e.0) (λ e. e.0) (λ e. e.0) (λ e. e.0) (λ e. e.0) (λ e. e.0) (λ e. e.0) y)))
declaration_clean (Declaration-F.Integers c t ds e) n = declarators_clean (is_constexpr c) c t shared.Unknown (map declarator_of (map (λ e. e.0) ds)) (all_declarators ds) n
declaration_clean (Declaration-F.Vector q t x None e) n = object_found (is_host n.setting.within) _ _ (vector_typing n t.kind x None) everywhere_found
declaration_clean (Declaration-F.Vector q t x (Some i) e) n =
    let o = initialized taken.Nothing (Some (initializer_of i.0)) n in
    found_append o.found _ (initialized_clean taken.Nothing (initializer_of i.0) i.1 n)
    (object_found (is_host o.names.setting.within) _ _ (vector_typing o.names t.kind x o.what.0) everywhere_found)
declaration_clean (Declaration-F.DeviceVector q x None e) n = object_found (is_host n.setting.within) _ _ (device_vector_typing n x None) everywhere_found
declaration_clean (Declaration-F.DeviceVector q x (Some i) e) n =
    let o = initialized taken.Nothing (Some (initializer_of i.0)) n in
    found_append o.found _ (initialized_clean taken.Nothing (initializer_of i.0) i.1 n)
    (object_found (is_host o.names.setting.within) _ _ (device_vector_typing o.names x o.what.0) everywhere_found)
declaration_clean (Declaration-F.ThreadVector q x e) n = object_found (is_host n.setting.within) _ _ (plain_typing n x) everywhere_found
declaration_clean (Declaration-F.Thread q x b l e) n =
    let o = lambda_of l.0 (role.Thread n.next) n in
    found_append o.found _ (l.1 (role.Thread n.next) n)
    (object_found (is_host o.names.setting.within) _ _ (plain_typing o.names x) everywhere_found)
declaration_clean (Declaration-F.Object t x None e) n = object_found (is_made_in n.setting.within t) _ _ (object_typing n t x None) (foreign_object_found t)
declaration_clean (Declaration-F.Object t x (Some i) e) n =
    let o = initialized (taken_by_object t) (Some (initializer_of i.0)) n in
    found_append o.found _ (initialized_clean (taken_by_object t) (initializer_of i.0) i.1 n)
    (object_found (is_made_in o.names.setting.within t) _ _ (object_typing o.names t x o.what.0) (foreign_object_found t))

full_clean : (y : FullExpression-F AnArgument ADeclaration ADeclarator AnExpr AFullExpression AnInitializer APrinted AStmt ABlock ALambda) (stands : Bool) → Clean ((full_step (map-FullExpression Argument Declaration Declarator Expr FullExpression Initializer Printed Stmt Block Lambda Ar De Dr Ex Fu In Pr St Bl La argument_of declaration_of declarator_of expr full_of initializer_of printed_of stmt block lambda_of (map-FullExpression AnArgument ADeclaration ADeclarator AnExpr AFullExpression AnInitializer APrinted AStmt ABlock ALambda Argument Declaration Declarator Expr FullExpression Initializer Printed Stmt Block Lambda (λ e. e.0) (λ e. e.0) (λ e. e.0) (λ e. e.0) (λ e. e.0) (λ e. e.0) (λ e. e.0) (λ e. e.0) (λ e. e.0) (λ e. e.0) y))) stands)
full_clean (FullExpression-F.Plain a) stands n =
    let o = where_taken (taken_as taken.Statement stands) (expr a.0) n in
    found_append o.found _ (part_clean (taken_as taken.Statement stands) (expr a.0) a.1 n) (full_found (FullExpression-F.Plain o.what.0))
full_clean (FullExpression-F.Assignment t s op v) stands n =
    let o = where_taken (taken_as taken.Reducer stands) (expr t.0) n in
    let p = part (expr v.0) o.names in
    found_append o.found _ (part_clean (taken_as taken.Reducer stands) (expr t.0) t.1 n)
    (found_append p.found _ (part_clean taken.Nothing (expr v.0) v.1 o.names)
    (full_found (FullExpression-F.Assignment o.what.0 s op p.what.0)))

printed_clean : (y : Printed-F AnArgument ADeclaration ADeclarator AnExpr AFullExpression AnInitializer APrinted AStmt ABlock ALambda) → Clean (printed_step (map-Printed Argument Declaration Declarator Expr FullExpression Initializer Printed Stmt Block Lambda Ar De Dr Ex Fu In Pr St Bl La argument_of declaration_of declarator_of expr full_of initializer_of printed_of stmt block lambda_of (map-Printed AnArgument ADeclaration ADeclarator AnExpr AFullExpression AnInitializer APrinted AStmt ABlock ALambda Argument Declaration Declarator Expr FullExpression Initializer Printed Stmt Block Lambda (λ e. e.0) (λ e. e.0) (λ e. e.0) (λ e. e.0) (λ e. e.0) (λ e. e.0) (λ e. e.0) (λ e. e.0) (λ e. e.0) (λ e. e.0) y)))
printed_clean (Printed-F.Operand s a) n =
    let o = part (expr a.0) n in
    found_append o.found _ (part_clean taken.Nothing (expr a.0) a.1 n) (found_faults _ (printed_typing o.what.0))
printed_clean (Printed-F.Text s x) n = none_found
printed_clean (Printed-F.EndLine s q) n = none_found

lambda_parts_clean : (r : Role) (t : Option ThreadScope) (cs : List Capture) (ps : List LambdaParameter) (b : Bl) (outside : Names) → Clean b → Clean (lambda_parts r t cs ps b outside)
lambda_parts_clean r t cs ps b outside h n =
    let o = all_captures outside t cs (entered n) in
    found_append o.found _ (captures_clean outside t cs (entered n))
    (parameters_and_body_clean r ps b h (entered (with_setting (inside r outside.depth) (within_thread t o.names))))

lambda_of_clean : (y : Lambda-F AnArgument ADeclaration ADeclarator AnExpr AFullExpression AnInitializer APrinted AStmt ABlock ALambda) (r : Role) → Clean ((lambda_step (map-Lambda Argument Declaration Declarator Expr FullExpression Initializer Printed Stmt Block Lambda Ar De Dr Ex Fu In Pr St Bl La argument_of declaration_of declarator_of expr full_of initializer_of printed_of stmt block lambda_of (map-Lambda AnArgument ADeclaration ADeclarator AnExpr AFullExpression AnInitializer APrinted AStmt ABlock ALambda Argument Declaration Declarator Expr FullExpression Initializer Printed Stmt Block Lambda (λ e. e.0) (λ e. e.0) (λ e. e.0) (λ e. e.0) (λ e. e.0) (λ e. e.0) (λ e. e.0) (λ e. e.0) (λ e. e.0) (λ e. e.0) y))) r)
lambda_of_clean y r n =
    lambda_clean r y.spot y.captures (listed y.parameters) _
    (lambda_parts_clean r (thread_scope n r y.captures) y.captures (listed y.parameters) (block y.body.0) n y.body.1 (record n { next_body = n.next_body + 1 }))

block_clean : (y : Block-F AnArgument ADeclaration ADeclarator AnExpr AFullExpression AnInitializer APrinted AStmt ABlock ALambda) → Clean (block_step (map-Block Argument Declaration Declarator Expr FullExpression Initializer Printed Stmt Block Lambda Ar De Dr Ex Fu In Pr St Bl La argument_of declaration_of declarator_of expr full_of initializer_of printed_of stmt block lambda_of (map-Block AnArgument ADeclaration ADeclarator AnExpr AFullExpression AnInitializer APrinted AStmt ABlock ALambda Argument Declaration Declarator Expr FullExpression Initializer Printed Stmt Block Lambda (λ e. e.0) (λ e. e.0) (λ e. e.0) (λ e. e.0) (λ e. e.0) (λ e. e.0) (λ e. e.0) (λ e. e.0) (λ e. e.0) (λ e. e.0) y)))
block_clean y n = all_clean (map (λ s. s standing.InList) (map stmt (map (λ e. e.0) y.statements))) (all_stmts y.statements) n

expr_clean : (y : Expr-F AnArgument ADeclaration ADeclarator AnExpr AFullExpression AnInitializer APrinted AStmt ABlock ALambda) → Clean (expr_step (map-Expr Argument Declaration Declarator Expr FullExpression Initializer Printed Stmt Block Lambda Ar De Dr Ex Fu In Pr St Bl La argument_of declaration_of declarator_of expr full_of initializer_of printed_of stmt block lambda_of (map-Expr AnArgument ADeclaration ADeclarator AnExpr AFullExpression AnInitializer APrinted AStmt ABlock ALambda Argument Declaration Declarator Expr FullExpression Initializer Printed Stmt Block Lambda (λ e. e.0) (λ e. e.0) (λ e. e.0) (λ e. e.0) (λ e. e.0) (λ e. e.0) (λ e. e.0) (λ e. e.0) (λ e. e.0) (λ e. e.0) y)))
expr_clean (Expr-F.Integer x) n = found_at_found n (Expr-F.Integer x)
expr_clean (Expr-F.Character x) n = found_at_found n (Expr-F.Character x)
expr_clean (Expr-F.Boolean s b) n = found_at_found n (Expr-F.Boolean s b)
expr_clean (Expr-F.Name x) n = found_at_found n (Expr-F.Name x)
expr_clean (Expr-F.Call f xs e) n =
    let o = parts (map expr (map (λ e. e.0) xs)) n in
    found_append o.found _ (parts_clean (map expr (map (λ e. e.0) xs)) (all_exprs xs) n) (found_at_found o.names (Expr-F.Call f (map seen_of o.what) e))
expr_clean (Expr-F.Parenthesized s a e) n = one_part_found (taken_inside n.setting.taken) (expr a.0) (λ a. Expr-F.Parenthesized s a e) a.1 n
expr_clean (Expr-F.StaticCast s t a e) n = one_part_found taken.Nothing (expr a.0) (λ a. Expr-F.StaticCast s t a e) a.1 n
expr_clean (Expr-F.FunctionalCast t a e) n = one_part_found taken.Nothing (expr a.0) (λ a. Expr-F.FunctionalCast t a e) a.1 n
expr_clean (Expr-F.Construct t b s xs e) n =
    let ys = map argument_of (map (λ e. e.0) xs) in
    let o = arguments (taken_by_object t) no_role [] ys n in
    found_append o.found _ (arguments_clean (taken_by_object t) no_role [] ys (all_arguments xs) n) (found_at_found o.names (Expr-F.Construct t b s o.what.0 e))
expr_clean (Expr-F.GroupBarrier q a e) n = one_part_found taken.Nothing (expr a.0) (λ a. Expr-F.GroupBarrier q a e) a.1 n
expr_clean (Expr-F.AccessTag q t) n = found_at_found n (Expr-F.AccessTag q t)
expr_clean (Expr-F.InOrder q b e) n = found_at_found n (Expr-F.InOrder q b e)
expr_clean (Expr-F.ErrorCode q x) n = found_at_found n (Expr-F.ErrorCode q x)
expr_clean (Expr-F.InitializeToIdentity q b e) n = found_at_found n (Expr-F.InitializeToIdentity q b e)
expr_clean (Expr-F.FunctionObject q f t b e) n = found_at_found n (Expr-F.FunctionObject q f t b e)
expr_clean (Expr-F.LibraryCall q f xs e) n =
    let ys = map argument_of (map (λ e. e.0) xs) in
    let o = arguments (taken_by_library f) no_role [] ys n in
    found_append o.found _ (arguments_clean (taken_by_library f) no_role [] ys (all_arguments xs) n) (found_at_found o.names (Expr-F.LibraryCall q f o.what.0 e))
expr_clean (Expr-F.Subscript a s i e) n =
    let o = where_taken taken.Nothing (expr a.0) n in
    found_append o.found _ (part_clean taken.Nothing (expr a.0) a.1 n) (one_part_found taken.Nothing (expr i.0) (λ i. Expr-F.Subscript o.what.0 s i e) i.1 o.names)
expr_clean (Expr-F.MemberCall a x t xs e) n =
    let k = taken_before_member n.setting.taken (member_named x.text) in
    let o = where_taken k (expr a.0) n in
    let ys = map argument_of (map (λ e. e.0) xs) in
    let role = role_in o.what.0 (member_named x.text) in
    let p = arguments (taken_by_member (member_named x.text)) role [] ys o.names in
    found_append o.found _ (part_clean k (expr a.0) a.1 n)
    (found_append p.found _ (arguments_clean (taken_by_member (member_named x.text)) role [] ys (all_arguments xs) o.names) (found_at_found p.names (Expr-F.MemberCall o.what.0 x t p.what.0 e)))
expr_clean (Expr-F.Postfix a s step) n = one_part_found taken.Nothing (expr a.0) (λ a. Expr-F.Postfix a s step) a.1 n
expr_clean (Expr-F.Prefix s step a) n = one_part_found taken.Nothing (expr a.0) (λ a. Expr-F.Prefix s step a) a.1 n
expr_clean (Expr-F.Unary s op a) n = one_part_found taken.Nothing (expr a.0) (λ a. Expr-F.Unary s op a) a.1 n
expr_clean (Expr-F.Cast s t a) n = one_part_found taken.Nothing (expr a.0) (λ a. Expr-F.Cast s t a) a.1 n
expr_clean (Expr-F.Binary a s op b) n =
    let o = where_taken (taken_beside op) (expr a.0) n in
    found_append o.found _ (part_clean (taken_beside op) (expr a.0) a.1 n) (one_part_found (taken_beside op) (expr b.0) (λ b. Expr-F.Binary o.what.0 s op b) b.1 o.names)
expr_clean (Expr-F.Conditional a s b c) n =
    let o = where_taken taken.Nothing (expr a.0) n in
    let p = where_taken taken.Nothing (expr b.0) o.names in
    found_append o.found _ (part_clean taken.Nothing (expr a.0) a.1 n)
    (found_append p.found _ (part_clean taken.Nothing (expr b.0) b.1 o.names) (one_part_found taken.Nothing (expr c.0) (λ c. Expr-F.Conditional o.what.0 s p.what.0 c) c.1 p.names))

stmt_clean : (y : Stmt-F AnArgument ADeclaration ADeclarator AnExpr AFullExpression AnInitializer APrinted AStmt ABlock ALambda) (own : Standing) → Clean ((stmt_step (map-Stmt Argument Declaration Declarator Expr FullExpression Initializer Printed Stmt Block Lambda Ar De Dr Ex Fu In Pr St Bl La argument_of declaration_of declarator_of expr full_of initializer_of printed_of stmt block lambda_of (map-Stmt AnArgument ADeclaration ADeclarator AnExpr AFullExpression AnInitializer APrinted AStmt ABlock ALambda Argument Declaration Declarator Expr FullExpression Initializer Printed Stmt Block Lambda (λ e. e.0) (λ e. e.0) (λ e. e.0) (λ e. e.0) (λ e. e.0) (λ e. e.0) (λ e. e.0) (λ e. e.0) (λ e. e.0) (λ e. e.0) y))) own)
stmt_clean (Stmt-F.Compound b) own n = block_as_clean own (block b.0) b.1 n
stmt_clean (Stmt-F.Null s) own n = none_found
stmt_clean (Stmt-F.Declaration d) own n = placed_clean own _ n _ (d.1 n)
stmt_clean (Stmt-F.Expression f e) own n = placed_clean own _ n _ (f.1 true n)
stmt_clean (Stmt-F.Print q xs e) own n =
    placed_clean own q.namespace n _ (found_append (foreign_in true within.Kernel) _ (foreign_found true within.Kernel) (all_clean (map printed_of (map (λ e. e.0) xs)) (all_printed xs) n))
stmt_clean (Stmt-F.Break s e) own n = stmt_found n.setting (Stmt-F.Break s e)
stmt_clean (Stmt-F.Continue s e) own n = stmt_found n.setting (Stmt-F.Continue s e)
stmt_clean (Stmt-F.Return s None e) own n = placed_clean own s n _ (stmt_found n.setting (Stmt-F.Return s None e))
stmt_clean (Stmt-F.Return s (Some a) e) own n =
    let o = part (expr a.0) n in
    placed_clean own s n _ (found_append o.found _ (part_clean taken.Nothing (expr a.0) a.1 n) (stmt_found o.names.setting (Stmt-F.Return s (Some o.what.0) e)))
stmt_clean (Stmt-F.If s c a None) own n =
    let o = part (expr c.0) n in
    let p = body (stmt a.0) o.names in
    placed_clean own s n _
    (found_append o.found _ (part_clean taken.Nothing (expr c.0) c.1 n)
    (found_append p.found _ (body_clean (stmt a.0) a.1 o.names) (stmt_found p.names.setting (Stmt-F.If s o.what.0 tt None))))
stmt_clean (Stmt-F.If s c a (Some b)) own n =
    let o = part (expr c.0) n in
    let p = body (stmt a.0) o.names in
    let q = body (stmt b.0) p.names in
    placed_clean own s n _
    (found_append o.found _ (part_clean taken.Nothing (expr c.0) c.1 n)
    (found_append p.found _ (body_clean (stmt a.0) a.1 o.names)
    (found_append q.found _ (body_clean (stmt b.0) b.1 p.names) (stmt_found q.names.setting (Stmt-F.If s o.what.0 tt None)))))
stmt_clean (Stmt-F.While s c a) own n =
    let o = part (expr c.0) n in
    let p = looped (body (stmt a.0)) o.names in
    placed_clean own s n _
    (found_append o.found _ (part_clean taken.Nothing (expr c.0) c.1 n)
    (found_append p.found _ (looped_clean (body (stmt a.0)) (body_clean (stmt a.0) a.1) o.names) (stmt_found p.names.setting (Stmt-F.While s o.what.0 tt))))
stmt_clean (Stmt-F.Do s a c e) own n =
    let o = looped (body (stmt a.0)) n in
    let p = part (expr c.0) o.names in
    placed_clean own s n _
    (found_append o.found _ (looped_clean (body (stmt a.0)) (body_clean (stmt a.0) a.1) n)
    (found_append p.found _ (part_clean taken.Nothing (expr c.0) c.1 o.names) (stmt_found p.names.setting (Stmt-F.Do s tt p.what.0 e))))
stmt_clean (Stmt-F.For s i None None a) own n =
    let o = stmt i.0 standing.InHead (entered n) in
    let r = looped (stmt a.0 standing.AsBody) o.names in
    placed_clean own s n _
    (found_append o.found _ (i.1 standing.InHead (entered n))
    (found_append r.found _ (looped_clean (stmt a.0 standing.AsBody) (a.1 standing.AsBody) o.names) (stmt_found r.names.setting (Stmt-F.For s tt None None tt))))
stmt_clean (Stmt-F.For s i None (Some f) a) own n =
    let o = stmt i.0 standing.InHead (entered n) in
    let q = full_of f.0 false o.names in
    let r = looped (stmt a.0 standing.AsBody) q.names in
    placed_clean own s n _
    (found_append o.found _ (i.1 standing.InHead (entered n))
    (found_append q.found _ (f.1 false o.names)
    (found_append r.found _ (looped_clean (stmt a.0 standing.AsBody) (a.1 standing.AsBody) q.names) (stmt_found r.names.setting (Stmt-F.For s tt None None tt)))))
stmt_clean (Stmt-F.For s i (Some c) None a) own n =
    let o = stmt i.0 standing.InHead (entered n) in
    let p = part (expr c.0) o.names in
    let r = looped (stmt a.0 standing.AsBody) p.names in
    placed_clean own s n _
    (found_append o.found _ (i.1 standing.InHead (entered n))
    (found_append p.found _ (part_clean taken.Nothing (expr c.0) c.1 o.names)
    (found_append r.found _ (looped_clean (stmt a.0 standing.AsBody) (a.1 standing.AsBody) p.names) (stmt_found r.names.setting (Stmt-F.For s tt (Some p.what.0) None tt)))))
stmt_clean (Stmt-F.For s i (Some c) (Some f) a) own n =
    let o = stmt i.0 standing.InHead (entered n) in
    let p = part (expr c.0) o.names in
    let q = full_of f.0 false p.names in
    let r = looped (stmt a.0 standing.AsBody) q.names in
    placed_clean own s n _
    (found_append o.found _ (i.1 standing.InHead (entered n))
    (found_append p.found _ (part_clean taken.Nothing (expr c.0) c.1 o.names)
    (found_append q.found _ (f.1 false p.names)
    (found_append r.found _ (looped_clean (stmt a.0 standing.AsBody) (a.1 standing.AsBody) q.names) (stmt_found r.names.setting (Stmt-F.For s tt (Some p.what.0) None tt))))))
stmt_clean (Stmt-F.RangeFor s c t r x v a) own n =
    placed_clean own s n _
    (found_append (range_found (entered n) c t r x v (look_up n.entries v.text)) _ (range_found_found (entered n) c t r x v (look_up n.entries v.text))
    (looped_clean (stmt a.0 standing.AsBody) (a.1 standing.AsBody) (ranged_name r x (element_given t (ranged_type (look_up (entered n).entries v.text))) (c || (r && ranged_fixed (look_up (entered n).entries v.text))) (entered n))))
stmt_clean (Stmt-F.Try s a x b) own n =
    let o = scoped (block a.0) n in
    placed_clean own s n _
    (found_append foreign_everywhere _ everywhere_found
    (found_append o.found _ (a.1 (entered n)) (b.1 (declared_variable x (Some thing.Exception) true (entered o.names)))))

rolled-Argument : (x : Argument-F Argument Declaration Declarator Expr FullExpression Initializer Printed Stmt Block Lambda) (y : Argument-F AnArgument ADeclaration ADeclarator AnExpr AFullExpression AnInitializer APrinted AStmt ABlock ALambda) → map-Argument AnArgument ADeclaration ADeclarator AnExpr AFullExpression AnInitializer APrinted AStmt ABlock ALambda Argument Declaration Declarator Expr FullExpression Initializer Printed Stmt Block Lambda (λ e. e.0) (λ e. e.0) (λ e. e.0) (λ e. e.0) (λ e. e.0) (λ e. e.0) (λ e. e.0) (λ e. e.0) (λ e. e.0) (λ e. e.0) y ≡ x → ArgumentClaim (roll-Argument x)
rolled-Argument x y is =
    let shown : ArgumentClaim (roll-Argument (map-Argument AnArgument ADeclaration ADeclarator AnExpr AFullExpression AnInitializer APrinted AStmt ABlock ALambda Argument Declaration Declarator Expr FullExpression Initializer Printed Stmt Block Lambda (λ e. e.0) (λ e. e.0) (λ e. e.0) (λ e. e.0) (λ e. e.0) (λ e. e.0) (λ e. e.0) (λ e. e.0) (λ e. e.0) (λ e. e.0) y)) = subst (λ m. ArgumentClean m) (sym (fold-roll-Argument Ar De Dr Ex Fu In Pr St Bl La argument_step declaration_step declarator_step expr_step full_step initializer_step printed_step stmt_step block_step lambda_step (map-Argument AnArgument ADeclaration ADeclarator AnExpr AFullExpression AnInitializer APrinted AStmt ABlock ALambda Argument Declaration Declarator Expr FullExpression Initializer Printed Stmt Block Lambda (λ e. e.0) (λ e. e.0) (λ e. e.0) (λ e. e.0) (λ e. e.0) (λ e. e.0) (λ e. e.0) (λ e. e.0) (λ e. e.0) (λ e. e.0) y))) (argument_clean y) in
    subst (λ z. ArgumentClaim (roll-Argument z)) is shown

rolled-Declaration : (x : Declaration-F Argument Declaration Declarator Expr FullExpression Initializer Printed Stmt Block Lambda) (y : Declaration-F AnArgument ADeclaration ADeclarator AnExpr AFullExpression AnInitializer APrinted AStmt ABlock ALambda) → map-Declaration AnArgument ADeclaration ADeclarator AnExpr AFullExpression AnInitializer APrinted AStmt ABlock ALambda Argument Declaration Declarator Expr FullExpression Initializer Printed Stmt Block Lambda (λ e. e.0) (λ e. e.0) (λ e. e.0) (λ e. e.0) (λ e. e.0) (λ e. e.0) (λ e. e.0) (λ e. e.0) (λ e. e.0) (λ e. e.0) y ≡ x → DeclarationClaim (roll-Declaration x)
rolled-Declaration x y is =
    let shown : DeclarationClaim (roll-Declaration (map-Declaration AnArgument ADeclaration ADeclarator AnExpr AFullExpression AnInitializer APrinted AStmt ABlock ALambda Argument Declaration Declarator Expr FullExpression Initializer Printed Stmt Block Lambda (λ e. e.0) (λ e. e.0) (λ e. e.0) (λ e. e.0) (λ e. e.0) (λ e. e.0) (λ e. e.0) (λ e. e.0) (λ e. e.0) (λ e. e.0) y)) = subst (λ m. Clean m) (sym (fold-roll-Declaration Ar De Dr Ex Fu In Pr St Bl La argument_step declaration_step declarator_step expr_step full_step initializer_step printed_step stmt_step block_step lambda_step (map-Declaration AnArgument ADeclaration ADeclarator AnExpr AFullExpression AnInitializer APrinted AStmt ABlock ALambda Argument Declaration Declarator Expr FullExpression Initializer Printed Stmt Block Lambda (λ e. e.0) (λ e. e.0) (λ e. e.0) (λ e. e.0) (λ e. e.0) (λ e. e.0) (λ e. e.0) (λ e. e.0) (λ e. e.0) (λ e. e.0) y))) (declaration_clean y) in
    subst (λ z. DeclarationClaim (roll-Declaration z)) is shown

rolled-Declarator : (x : Declarator-F Argument Declaration Declarator Expr FullExpression Initializer Printed Stmt Block Lambda) (y : Declarator-F AnArgument ADeclaration ADeclarator AnExpr AFullExpression AnInitializer APrinted AStmt ABlock ALambda) → map-Declarator AnArgument ADeclaration ADeclarator AnExpr AFullExpression AnInitializer APrinted AStmt ABlock ALambda Argument Declaration Declarator Expr FullExpression Initializer Printed Stmt Block Lambda (λ e. e.0) (λ e. e.0) (λ e. e.0) (λ e. e.0) (λ e. e.0) (λ e. e.0) (λ e. e.0) (λ e. e.0) (λ e. e.0) (λ e. e.0) y ≡ x → DeclaratorClaim (roll-Declarator x)
rolled-Declarator x y is =
    let shown : DeclaratorClaim (roll-Declarator (map-Declarator AnArgument ADeclaration ADeclarator AnExpr AFullExpression AnInitializer APrinted AStmt ABlock ALambda Argument Declaration Declarator Expr FullExpression Initializer Printed Stmt Block Lambda (λ e. e.0) (λ e. e.0) (λ e. e.0) (λ e. e.0) (λ e. e.0) (λ e. e.0) (λ e. e.0) (λ e. e.0) (λ e. e.0) (λ e. e.0) y)) = subst (λ m. DeclaratorClean m) (sym (fold-roll-Declarator Ar De Dr Ex Fu In Pr St Bl La argument_step declaration_step declarator_step expr_step full_step initializer_step printed_step stmt_step block_step lambda_step (map-Declarator AnArgument ADeclaration ADeclarator AnExpr AFullExpression AnInitializer APrinted AStmt ABlock ALambda Argument Declaration Declarator Expr FullExpression Initializer Printed Stmt Block Lambda (λ e. e.0) (λ e. e.0) (λ e. e.0) (λ e. e.0) (λ e. e.0) (λ e. e.0) (λ e. e.0) (λ e. e.0) (λ e. e.0) (λ e. e.0) y))) (declarator_clean y) in
    subst (λ z. DeclaratorClaim (roll-Declarator z)) is shown

rolled-Expr : (x : Expr-F Argument Declaration Declarator Expr FullExpression Initializer Printed Stmt Block Lambda) (y : Expr-F AnArgument ADeclaration ADeclarator AnExpr AFullExpression AnInitializer APrinted AStmt ABlock ALambda) → map-Expr AnArgument ADeclaration ADeclarator AnExpr AFullExpression AnInitializer APrinted AStmt ABlock ALambda Argument Declaration Declarator Expr FullExpression Initializer Printed Stmt Block Lambda (λ e. e.0) (λ e. e.0) (λ e. e.0) (λ e. e.0) (λ e. e.0) (λ e. e.0) (λ e. e.0) (λ e. e.0) (λ e. e.0) (λ e. e.0) y ≡ x → ExprClaim (roll-Expr x)
rolled-Expr x y is =
    let shown : ExprClaim (roll-Expr (map-Expr AnArgument ADeclaration ADeclarator AnExpr AFullExpression AnInitializer APrinted AStmt ABlock ALambda Argument Declaration Declarator Expr FullExpression Initializer Printed Stmt Block Lambda (λ e. e.0) (λ e. e.0) (λ e. e.0) (λ e. e.0) (λ e. e.0) (λ e. e.0) (λ e. e.0) (λ e. e.0) (λ e. e.0) (λ e. e.0) y)) = subst (λ m. Clean m) (sym (fold-roll-Expr Ar De Dr Ex Fu In Pr St Bl La argument_step declaration_step declarator_step expr_step full_step initializer_step printed_step stmt_step block_step lambda_step (map-Expr AnArgument ADeclaration ADeclarator AnExpr AFullExpression AnInitializer APrinted AStmt ABlock ALambda Argument Declaration Declarator Expr FullExpression Initializer Printed Stmt Block Lambda (λ e. e.0) (λ e. e.0) (λ e. e.0) (λ e. e.0) (λ e. e.0) (λ e. e.0) (λ e. e.0) (λ e. e.0) (λ e. e.0) (λ e. e.0) y))) (expr_clean y) in
    subst (λ z. ExprClaim (roll-Expr z)) is shown

rolled-FullExpression : (x : FullExpression-F Argument Declaration Declarator Expr FullExpression Initializer Printed Stmt Block Lambda) (y : FullExpression-F AnArgument ADeclaration ADeclarator AnExpr AFullExpression AnInitializer APrinted AStmt ABlock ALambda) → map-FullExpression AnArgument ADeclaration ADeclarator AnExpr AFullExpression AnInitializer APrinted AStmt ABlock ALambda Argument Declaration Declarator Expr FullExpression Initializer Printed Stmt Block Lambda (λ e. e.0) (λ e. e.0) (λ e. e.0) (λ e. e.0) (λ e. e.0) (λ e. e.0) (λ e. e.0) (λ e. e.0) (λ e. e.0) (λ e. e.0) y ≡ x → FullExpressionClaim (roll-FullExpression x)
rolled-FullExpression x y is =
    let shown : FullExpressionClaim (roll-FullExpression (map-FullExpression AnArgument ADeclaration ADeclarator AnExpr AFullExpression AnInitializer APrinted AStmt ABlock ALambda Argument Declaration Declarator Expr FullExpression Initializer Printed Stmt Block Lambda (λ e. e.0) (λ e. e.0) (λ e. e.0) (λ e. e.0) (λ e. e.0) (λ e. e.0) (λ e. e.0) (λ e. e.0) (λ e. e.0) (λ e. e.0) y)) = subst (λ m. (stands : Bool) → Clean (m stands)) (sym (fold-roll-FullExpression Ar De Dr Ex Fu In Pr St Bl La argument_step declaration_step declarator_step expr_step full_step initializer_step printed_step stmt_step block_step lambda_step (map-FullExpression AnArgument ADeclaration ADeclarator AnExpr AFullExpression AnInitializer APrinted AStmt ABlock ALambda Argument Declaration Declarator Expr FullExpression Initializer Printed Stmt Block Lambda (λ e. e.0) (λ e. e.0) (λ e. e.0) (λ e. e.0) (λ e. e.0) (λ e. e.0) (λ e. e.0) (λ e. e.0) (λ e. e.0) (λ e. e.0) y))) (full_clean y) in
    subst (λ z. FullExpressionClaim (roll-FullExpression z)) is shown

rolled-Initializer : (x : Initializer-F Argument Declaration Declarator Expr FullExpression Initializer Printed Stmt Block Lambda) (y : Initializer-F AnArgument ADeclaration ADeclarator AnExpr AFullExpression AnInitializer APrinted AStmt ABlock ALambda) → map-Initializer AnArgument ADeclaration ADeclarator AnExpr AFullExpression AnInitializer APrinted AStmt ABlock ALambda Argument Declaration Declarator Expr FullExpression Initializer Printed Stmt Block Lambda (λ e. e.0) (λ e. e.0) (λ e. e.0) (λ e. e.0) (λ e. e.0) (λ e. e.0) (λ e. e.0) (λ e. e.0) (λ e. e.0) (λ e. e.0) y ≡ x → InitializerClaim (roll-Initializer x)
rolled-Initializer x y is =
    let shown : InitializerClaim (roll-Initializer (map-Initializer AnArgument ADeclaration ADeclarator AnExpr AFullExpression AnInitializer APrinted AStmt ABlock ALambda Argument Declaration Declarator Expr FullExpression Initializer Printed Stmt Block Lambda (λ e. e.0) (λ e. e.0) (λ e. e.0) (λ e. e.0) (λ e. e.0) (λ e. e.0) (λ e. e.0) (λ e. e.0) (λ e. e.0) (λ e. e.0) y)) = subst (λ m. InitializerClean m) (sym (fold-roll-Initializer Ar De Dr Ex Fu In Pr St Bl La argument_step declaration_step declarator_step expr_step full_step initializer_step printed_step stmt_step block_step lambda_step (map-Initializer AnArgument ADeclaration ADeclarator AnExpr AFullExpression AnInitializer APrinted AStmt ABlock ALambda Argument Declaration Declarator Expr FullExpression Initializer Printed Stmt Block Lambda (λ e. e.0) (λ e. e.0) (λ e. e.0) (λ e. e.0) (λ e. e.0) (λ e. e.0) (λ e. e.0) (λ e. e.0) (λ e. e.0) (λ e. e.0) y))) (initializer_clean y) in
    subst (λ z. InitializerClaim (roll-Initializer z)) is shown

rolled-Printed : (x : Printed-F Argument Declaration Declarator Expr FullExpression Initializer Printed Stmt Block Lambda) (y : Printed-F AnArgument ADeclaration ADeclarator AnExpr AFullExpression AnInitializer APrinted AStmt ABlock ALambda) → map-Printed AnArgument ADeclaration ADeclarator AnExpr AFullExpression AnInitializer APrinted AStmt ABlock ALambda Argument Declaration Declarator Expr FullExpression Initializer Printed Stmt Block Lambda (λ e. e.0) (λ e. e.0) (λ e. e.0) (λ e. e.0) (λ e. e.0) (λ e. e.0) (λ e. e.0) (λ e. e.0) (λ e. e.0) (λ e. e.0) y ≡ x → PrintedClaim (roll-Printed x)
rolled-Printed x y is =
    let shown : PrintedClaim (roll-Printed (map-Printed AnArgument ADeclaration ADeclarator AnExpr AFullExpression AnInitializer APrinted AStmt ABlock ALambda Argument Declaration Declarator Expr FullExpression Initializer Printed Stmt Block Lambda (λ e. e.0) (λ e. e.0) (λ e. e.0) (λ e. e.0) (λ e. e.0) (λ e. e.0) (λ e. e.0) (λ e. e.0) (λ e. e.0) (λ e. e.0) y)) = subst (λ m. Clean m) (sym (fold-roll-Printed Ar De Dr Ex Fu In Pr St Bl La argument_step declaration_step declarator_step expr_step full_step initializer_step printed_step stmt_step block_step lambda_step (map-Printed AnArgument ADeclaration ADeclarator AnExpr AFullExpression AnInitializer APrinted AStmt ABlock ALambda Argument Declaration Declarator Expr FullExpression Initializer Printed Stmt Block Lambda (λ e. e.0) (λ e. e.0) (λ e. e.0) (λ e. e.0) (λ e. e.0) (λ e. e.0) (λ e. e.0) (λ e. e.0) (λ e. e.0) (λ e. e.0) y))) (printed_clean y) in
    subst (λ z. PrintedClaim (roll-Printed z)) is shown

rolled-Stmt : (x : Stmt-F Argument Declaration Declarator Expr FullExpression Initializer Printed Stmt Block Lambda) (y : Stmt-F AnArgument ADeclaration ADeclarator AnExpr AFullExpression AnInitializer APrinted AStmt ABlock ALambda) → map-Stmt AnArgument ADeclaration ADeclarator AnExpr AFullExpression AnInitializer APrinted AStmt ABlock ALambda Argument Declaration Declarator Expr FullExpression Initializer Printed Stmt Block Lambda (λ e. e.0) (λ e. e.0) (λ e. e.0) (λ e. e.0) (λ e. e.0) (λ e. e.0) (λ e. e.0) (λ e. e.0) (λ e. e.0) (λ e. e.0) y ≡ x → StmtClaim (roll-Stmt x)
rolled-Stmt x y is =
    let shown : StmtClaim (roll-Stmt (map-Stmt AnArgument ADeclaration ADeclarator AnExpr AFullExpression AnInitializer APrinted AStmt ABlock ALambda Argument Declaration Declarator Expr FullExpression Initializer Printed Stmt Block Lambda (λ e. e.0) (λ e. e.0) (λ e. e.0) (λ e. e.0) (λ e. e.0) (λ e. e.0) (λ e. e.0) (λ e. e.0) (λ e. e.0) (λ e. e.0) y)) = subst (λ m. (own : Standing) → Clean (m own)) (sym (fold-roll-Stmt Ar De Dr Ex Fu In Pr St Bl La argument_step declaration_step declarator_step expr_step full_step initializer_step printed_step stmt_step block_step lambda_step (map-Stmt AnArgument ADeclaration ADeclarator AnExpr AFullExpression AnInitializer APrinted AStmt ABlock ALambda Argument Declaration Declarator Expr FullExpression Initializer Printed Stmt Block Lambda (λ e. e.0) (λ e. e.0) (λ e. e.0) (λ e. e.0) (λ e. e.0) (λ e. e.0) (λ e. e.0) (λ e. e.0) (λ e. e.0) (λ e. e.0) y))) (stmt_clean y) in
    subst (λ z. StmtClaim (roll-Stmt z)) is shown

rolled-Block : (x : Block-F Argument Declaration Declarator Expr FullExpression Initializer Printed Stmt Block Lambda) (y : Block-F AnArgument ADeclaration ADeclarator AnExpr AFullExpression AnInitializer APrinted AStmt ABlock ALambda) → map-Block AnArgument ADeclaration ADeclarator AnExpr AFullExpression AnInitializer APrinted AStmt ABlock ALambda Argument Declaration Declarator Expr FullExpression Initializer Printed Stmt Block Lambda (λ e. e.0) (λ e. e.0) (λ e. e.0) (λ e. e.0) (λ e. e.0) (λ e. e.0) (λ e. e.0) (λ e. e.0) (λ e. e.0) (λ e. e.0) y ≡ x → BlockClaim (roll-Block x)
rolled-Block x y is =
    let shown : BlockClaim (roll-Block (map-Block AnArgument ADeclaration ADeclarator AnExpr AFullExpression AnInitializer APrinted AStmt ABlock ALambda Argument Declaration Declarator Expr FullExpression Initializer Printed Stmt Block Lambda (λ e. e.0) (λ e. e.0) (λ e. e.0) (λ e. e.0) (λ e. e.0) (λ e. e.0) (λ e. e.0) (λ e. e.0) (λ e. e.0) (λ e. e.0) y)) = subst (λ m. Clean m) (sym (fold-roll-Block Ar De Dr Ex Fu In Pr St Bl La argument_step declaration_step declarator_step expr_step full_step initializer_step printed_step stmt_step block_step lambda_step (map-Block AnArgument ADeclaration ADeclarator AnExpr AFullExpression AnInitializer APrinted AStmt ABlock ALambda Argument Declaration Declarator Expr FullExpression Initializer Printed Stmt Block Lambda (λ e. e.0) (λ e. e.0) (λ e. e.0) (λ e. e.0) (λ e. e.0) (λ e. e.0) (λ e. e.0) (λ e. e.0) (λ e. e.0) (λ e. e.0) y))) (block_clean y) in
    subst (λ z. BlockClaim (roll-Block z)) is shown

rolled-Lambda : (x : Lambda-F Argument Declaration Declarator Expr FullExpression Initializer Printed Stmt Block Lambda) (y : Lambda-F AnArgument ADeclaration ADeclarator AnExpr AFullExpression AnInitializer APrinted AStmt ABlock ALambda) → map-Lambda AnArgument ADeclaration ADeclarator AnExpr AFullExpression AnInitializer APrinted AStmt ABlock ALambda Argument Declaration Declarator Expr FullExpression Initializer Printed Stmt Block Lambda (λ e. e.0) (λ e. e.0) (λ e. e.0) (λ e. e.0) (λ e. e.0) (λ e. e.0) (λ e. e.0) (λ e. e.0) (λ e. e.0) (λ e. e.0) y ≡ x → LambdaClaim (roll-Lambda x)
rolled-Lambda x y is =
    let shown : LambdaClaim (roll-Lambda (map-Lambda AnArgument ADeclaration ADeclarator AnExpr AFullExpression AnInitializer APrinted AStmt ABlock ALambda Argument Declaration Declarator Expr FullExpression Initializer Printed Stmt Block Lambda (λ e. e.0) (λ e. e.0) (λ e. e.0) (λ e. e.0) (λ e. e.0) (λ e. e.0) (λ e. e.0) (λ e. e.0) (λ e. e.0) (λ e. e.0) y)) = subst (λ m. (r : Role) → Clean (m r)) (sym (fold-roll-Lambda Ar De Dr Ex Fu In Pr St Bl La argument_step declaration_step declarator_step expr_step full_step initializer_step printed_step stmt_step block_step lambda_step (map-Lambda AnArgument ADeclaration ADeclarator AnExpr AFullExpression AnInitializer APrinted AStmt ABlock ALambda Argument Declaration Declarator Expr FullExpression Initializer Printed Stmt Block Lambda (λ e. e.0) (λ e. e.0) (λ e. e.0) (λ e. e.0) (λ e. e.0) (λ e. e.0) (λ e. e.0) (λ e. e.0) (λ e. e.0) (λ e. e.0) y))) (lambda_of_clean y) in
    subst (λ z. LambdaClaim (roll-Lambda z)) is shown

-- ---- whole blocks, and the initializers of constants

pub block_is_clean : (b : Block) → Clean (block b)
block_is_clean = ind-Block ArgumentClaim DeclarationClaim DeclaratorClaim ExprClaim FullExpressionClaim InitializerClaim PrintedClaim StmtClaim BlockClaim LambdaClaim rolled-Argument rolled-Declaration rolled-Declarator rolled-Expr rolled-FullExpression rolled-Initializer rolled-Printed rolled-Stmt rolled-Block rolled-Lambda

pub declarator_is_clean : (d : Declarator) → DeclaratorClean (declarator_of d)
declarator_is_clean = ind-Declarator ArgumentClaim DeclarationClaim DeclaratorClaim ExprClaim FullExpressionClaim InitializerClaim PrintedClaim StmtClaim BlockClaim LambdaClaim rolled-Argument rolled-Declaration rolled-Declarator rolled-Expr rolled-FullExpression rolled-Initializer rolled-Printed rolled-Stmt rolled-Block rolled-Lambda
