-- What is found in a block has its place: an induction over the tree.
use Rattle.std.proofs.Common.{◌≡◌, refl, sym, ap, subst, ◌∙◌, ◌+◌, true, List, [], ◌∷◌, ◌++◌, map, Option, Some, None}
use Rattle.std.specs.Prelude.{⊤, flat_map}
use Rattle.std.proofs.lemmas.Grind.{flat_map-append}
use Rattle.sy_note.specs.declared.Diagnostic.{Diagnostic}
use Rattle.sy_note.specs.declared.Spot.{Spot}
use Rattle.sy_tree.specs.declared.tree.Argument.{Argument, fold-Argument, fold-roll-Argument, map-Argument, roll-Argument}
use Rattle.sy_tree.specs.declared.tree.Declaration.{Declaration, fold-Declaration, fold-roll-Declaration, map-Declaration, roll-Declaration}
use Rattle.sy_tree.specs.declared.tree.Declarator.{Declarator, fold-Declarator, fold-roll-Declarator, map-Declarator, roll-Declarator}
use Rattle.sy_tree.specs.declared.tree.Expr.{Expr, fold-Expr, fold-roll-Expr, map-Expr, roll-Expr}
use Rattle.sy_tree.specs.declared.tree.FullExpression.{FullExpression, fold-FullExpression, fold-roll-FullExpression, map-FullExpression, roll-FullExpression}
use Rattle.sy_tree.specs.declared.tree.Initializer.{Initializer, fold-Initializer, fold-roll-Initializer, map-Initializer, roll-Initializer}
use Rattle.sy_tree.specs.declared.tree.Printed.{Printed, fold-Printed, fold-roll-Printed, map-Printed, roll-Printed}
use Rattle.sy_tree.specs.declared.tree.Stmt.{Stmt, fold-Stmt, fold-roll-Stmt, map-Stmt, roll-Stmt}
use Rattle.sy_tree.specs.declared.tree.Block.{Block, fold-Block, fold-roll-Block, ind-Block, map-Block, roll-Block}
use Rattle.sy_tree.specs.declared.tree.Lambda.{Lambda, fold-Lambda, fold-roll-Lambda, map-Lambda, roll-Lambda}
use Rattle.sy_tree.specs.declared.tree.Argument.TheOpen.{Block-F, Stmt-F}
use Rattle.sy_found.specs.Noted.{placed_by}
use Rattle.sy_found.specs.declared.parts.Place.{Place}
use Rattle.sy_placing.specs.Placing.{HavePlaces}
use Rattle.sy_rules.specs.declared.names.Names.{Names}
use Rattle.sy_rules.specs.declared.names.Within.{Within}
use Rattle.sy_rules.specs.declared.names.Within.TheVariants as within
use Rattle.sy_rules.specs.declared.statements.Standing.TheVariants as standing
use Rattle.sy_rules.specs.Outcome.{Finding, broken, foreign, held, calls, uses, placed, placed_in, faults_found, foreign_in, in_turn}
use Rattle.sy_rules.specs.Names.{scoped}
use Rattle.sy_rules.specs.StmtRules.{stmt_faults}
use Rattle.sy_rules.specs.Walk.{Ar, De, Dr, Ex, Fu, In, Pr, St, Bl, La, argument_step, declaration_step, declarator_step, expr_step, full_step, initializer_step, printed_step, stmt_step, block_step, lambda_step, expr, stmt, block, declarator_of, returning, branching, while_loop, do_loop, for_loop, range_for, trying}

-- ---- what has its place keeps it

kept_in : (p : Option Place) (w : Within) (s : Spot) (u : Within) → flat_map (placed_by p) (placed_in w s u) ≡ placed_in w s u
kept_in None within.Host s u = refl
kept_in None within.Group s within.Host = refl
kept_in None within.Group s within.Group = refl
kept_in None within.Group s within.Kernel = refl
kept_in None within.Kernel s within.Host = refl
kept_in None within.Kernel s within.Group = refl
kept_in None within.Kernel s within.Kernel = refl
kept_in (Some p) within.Host s u = refl
kept_in (Some p) within.Group s within.Host = refl
kept_in (Some p) within.Group s within.Group = refl
kept_in (Some p) within.Group s within.Kernel = refl
kept_in (Some p) within.Kernel s within.Host = refl
kept_in (Some p) within.Kernel s within.Group = refl
kept_in (Some p) within.Kernel s within.Kernel = refl

kept_one : (p : Option Place) (w : Within) (s : Spot) (x : Finding) → flat_map (placed_by p) (placed w s x) ≡ placed w s x
kept_one p w s (foreign u) = kept_in p w s u
kept_one None w s (broken d) = refl
kept_one None w s (held u r) = refl
kept_one None w s (calls u i) = refl
kept_one None w s (uses v) = refl
kept_one (Some p) w s (broken d) = refl
kept_one (Some p) w s (held u r) = refl
kept_one (Some p) w s (calls u i) = refl
kept_one (Some p) w s (uses v) = refl

pub places_append : (xs ys : List Finding) → HavePlaces xs → HavePlaces ys → HavePlaces (xs ++ ys)
places_append xs ys h k p =
    flat_map-append (placed_by p) xs ys
    ∙ ap (λ l. l ++ flat_map (placed_by p) ys) (h p)
    ∙ ap (λ l. xs ++ l) (k p)

pub statement_places : (w : Within) (s : Spot) (xs : List Finding) → HavePlaces (flat_map (placed w s) xs)
statement_places w s [] p = refl
statement_places w s (x ∷ xs) p =
    flat_map-append (placed_by p) (placed w s x) (flat_map (placed w s) xs)
    ∙ ap (λ l. l ++ flat_map (placed_by p) (flat_map (placed w s) xs)) (kept_one p w s x)
    ∙ ap (λ l. placed w s x ++ l) (statement_places w s xs p)

pub fault_places : (ds : List Diagnostic) → HavePlaces (faults_found ds)
fault_places [] p = refl
fault_places (d ∷ ds) None = ap (λ l. broken d ∷ l) (fault_places ds None)
fault_places (d ∷ ds) (Some p) = ap (λ l. broken d ∷ l) (fault_places ds (Some p))

-- ---- the tree
abbrev argument_of : Argument → Ar
argument_of = fold-Argument Ar De Dr Ex Fu In Pr St Bl La argument_step declaration_step declarator_step expr_step full_step initializer_step printed_step stmt_step block_step lambda_step

abbrev declaration_of : Declaration → De
declaration_of = fold-Declaration Ar De Dr Ex Fu In Pr St Bl La argument_step declaration_step declarator_step expr_step full_step initializer_step printed_step stmt_step block_step lambda_step

abbrev full_of : FullExpression → Fu
full_of = fold-FullExpression Ar De Dr Ex Fu In Pr St Bl La argument_step declaration_step declarator_step expr_step full_step initializer_step printed_step stmt_step block_step lambda_step

abbrev initializer_of : Initializer → In
initializer_of = fold-Initializer Ar De Dr Ex Fu In Pr St Bl La argument_step declaration_step declarator_step expr_step full_step initializer_step printed_step stmt_step block_step lambda_step

abbrev printed_of : Printed → Pr
printed_of = fold-Printed Ar De Dr Ex Fu In Pr St Bl La argument_step declaration_step declarator_step expr_step full_step initializer_step printed_step stmt_step block_step lambda_step

abbrev lambda_of : Lambda → La
lambda_of = fold-Lambda Ar De Dr Ex Fu In Pr St Bl La argument_step declaration_step declarator_step expr_step full_step initializer_step printed_step stmt_step block_step lambda_step

abbrev StmtPlaces : St → Type 0
StmtPlaces s = (n : Names) → HavePlaces (s standing.AsBody n).found × HavePlaces (s standing.InList n).found

abbrev BlockPlaces : Bl → Type 0
BlockPlaces b = (n : Names) → HavePlaces (b n).found

abbrev ArgumentClaim : Argument → Type 0
ArgumentClaim x = ⊤

abbrev AnArgument : Type 0
AnArgument = (x : Argument) × ArgumentClaim x

abbrev DeclarationClaim : Declaration → Type 0
DeclarationClaim x = ⊤

abbrev ADeclaration : Type 0
ADeclaration = (x : Declaration) × DeclarationClaim x

abbrev DeclaratorClaim : Declarator → Type 0
DeclaratorClaim x = ⊤

abbrev ADeclarator : Type 0
ADeclarator = (x : Declarator) × DeclaratorClaim x

abbrev ExprClaim : Expr → Type 0
ExprClaim x = ⊤

abbrev AnExpr : Type 0
AnExpr = (x : Expr) × ExprClaim x

abbrev FullExpressionClaim : FullExpression → Type 0
FullExpressionClaim x = ⊤

abbrev AFullExpression : Type 0
AFullExpression = (x : FullExpression) × FullExpressionClaim x

abbrev InitializerClaim : Initializer → Type 0
InitializerClaim x = ⊤

abbrev AnInitializer : Type 0
AnInitializer = (x : Initializer) × InitializerClaim x

abbrev PrintedClaim : Printed → Type 0
PrintedClaim x = ⊤

abbrev APrinted : Type 0
APrinted = (x : Printed) × PrintedClaim x

abbrev StmtClaim : Stmt → Type 0
StmtClaim x = StmtPlaces (stmt x)

abbrev AStmt : Type 0
AStmt = (x : Stmt) × StmtClaim x

abbrev BlockClaim : Block → Type 0
BlockClaim x = BlockPlaces (block x)

abbrev ABlock : Type 0
ABlock = (x : Block) × BlockClaim x

abbrev LambdaClaim : Lambda → Type 0
LambdaClaim x = ⊤

abbrev ALambda : Type 0
ALambda = (x : Lambda) × LambdaClaim x

-- as a body and in a list
placed_places : (n : Names) (s : Spot) (xs : List Finding) → HavePlaces (flat_map (placed n.setting.within s) xs) × HavePlaces (flat_map (placed n.setting.within s) xs)
placed_places n s xs = (statement_places n.setting.within s xs, statement_places n.setting.within s xs)

stmt_places : (y : Stmt-F AnArgument ADeclaration ADeclarator AnExpr AFullExpression AnInitializer APrinted AStmt ABlock ALambda) → StmtPlaces (stmt_step (map-Stmt Argument Declaration Declarator Expr FullExpression Initializer Printed Stmt Block Lambda Ar De Dr Ex Fu In Pr St Bl La argument_of declaration_of declarator_of expr full_of initializer_of printed_of stmt block lambda_of (map-Stmt AnArgument ADeclaration ADeclarator AnExpr AFullExpression AnInitializer APrinted AStmt ABlock ALambda Argument Declaration Declarator Expr FullExpression Initializer Printed Stmt Block Lambda (λ e. e.0) (λ e. e.0) (λ e. e.0) (λ e. e.0) (λ e. e.0) (λ e. e.0) (λ e. e.0) (λ e. e.0) (λ e. e.0) (λ e. e.0) y)))
stmt_places (Stmt-F.Compound b) n = (b.1 n, b.1 (record n { depth = n.depth + 1 }))
stmt_places (Stmt-F.Null s) n = (λ p. refl, λ p. refl)
stmt_places (Stmt-F.Declaration d) n = placed_places n (declaration_of d.0 n).what.0 (declaration_of d.0 n).found
stmt_places (Stmt-F.Expression f e) n = placed_places n (full_of f.0 true n).what.0 (full_of f.0 true n).found
stmt_places (Stmt-F.Print q xs e) n = placed_places n q.namespace (foreign_in true within.Kernel ++ (in_turn (map printed_of (map (λ e. e.0) xs)) n).found)
stmt_places (Stmt-F.Break s e) n = (fault_places (stmt_faults n.setting (Stmt-F.Break s e)), fault_places (stmt_faults n.setting (Stmt-F.Break s e)))
stmt_places (Stmt-F.Continue s e) n = (fault_places (stmt_faults n.setting (Stmt-F.Continue s e)), fault_places (stmt_faults n.setting (Stmt-F.Continue s e)))
stmt_places (Stmt-F.Return s None e) n = placed_places n s (returning s None e n).found
stmt_places (Stmt-F.Return s (Some a) e) n = placed_places n s (returning s (Some (expr a.0)) e n).found
stmt_places (Stmt-F.If s c a None) n = placed_places n s (branching s (expr c.0) (stmt a.0) None n).found
stmt_places (Stmt-F.If s c a (Some b)) n = placed_places n s (branching s (expr c.0) (stmt a.0) (Some (stmt b.0)) n).found
stmt_places (Stmt-F.While s c a) n = placed_places n s (while_loop s (expr c.0) (stmt a.0) n).found
stmt_places (Stmt-F.Do s a c e) n = placed_places n s (do_loop s (stmt a.0) (expr c.0) e n).found
stmt_places (Stmt-F.For s i None None a) n = placed_places n s (scoped (for_loop s (stmt i.0) None None (stmt a.0)) n).found
stmt_places (Stmt-F.For s i (Some c) None a) n = placed_places n s (scoped (for_loop s (stmt i.0) (Some (expr c.0)) None (stmt a.0)) n).found
stmt_places (Stmt-F.For s i None (Some f) a) n = placed_places n s (scoped (for_loop s (stmt i.0) None (Some (full_of f.0)) (stmt a.0)) n).found
stmt_places (Stmt-F.For s i (Some c) (Some f) a) n = placed_places n s (scoped (for_loop s (stmt i.0) (Some (expr c.0)) (Some (full_of f.0)) (stmt a.0)) n).found
stmt_places (Stmt-F.RangeFor s c t r x v a) n = placed_places n s (scoped (range_for s c t r x v (stmt a.0)) n).found
stmt_places (Stmt-F.Try s a x b) n = placed_places n s (trying s (block a.0) x (block b.0) n).found

list_places : (ys : List AStmt) (n : Names) → HavePlaces (in_turn (map (λ s. s standing.InList) (map stmt (map (λ e. e.0) ys))) n).found
list_places [] n = λ p. refl
list_places (y ∷ ys) n =
    places_append (stmt y.0 standing.InList n).found (in_turn (map (λ s. s standing.InList) (map stmt (map (λ e. e.0) ys))) (stmt y.0 standing.InList n).names).found
    (y.1 n).1 (list_places ys (stmt y.0 standing.InList n).names)

block_places : (y : Block-F AnArgument ADeclaration ADeclarator AnExpr AFullExpression AnInitializer APrinted AStmt ABlock ALambda) → BlockPlaces (block_step (map-Block Argument Declaration Declarator Expr FullExpression Initializer Printed Stmt Block Lambda Ar De Dr Ex Fu In Pr St Bl La argument_of declaration_of declarator_of expr full_of initializer_of printed_of stmt block lambda_of (map-Block AnArgument ADeclaration ADeclarator AnExpr AFullExpression AnInitializer APrinted AStmt ABlock ALambda Argument Declaration Declarator Expr FullExpression Initializer Printed Stmt Block Lambda (λ e. e.0) (λ e. e.0) (λ e. e.0) (λ e. e.0) (λ e. e.0) (λ e. e.0) (λ e. e.0) (λ e. e.0) (λ e. e.0) (λ e. e.0) y)))
block_places y n = list_places y.statements n

rolled-Stmt : (x : Stmt-F Argument Declaration Declarator Expr FullExpression Initializer Printed Stmt Block Lambda) (y : Stmt-F AnArgument ADeclaration ADeclarator AnExpr AFullExpression AnInitializer APrinted AStmt ABlock ALambda) → map-Stmt AnArgument ADeclaration ADeclarator AnExpr AFullExpression AnInitializer APrinted AStmt ABlock ALambda Argument Declaration Declarator Expr FullExpression Initializer Printed Stmt Block Lambda (λ e. e.0) (λ e. e.0) (λ e. e.0) (λ e. e.0) (λ e. e.0) (λ e. e.0) (λ e. e.0) (λ e. e.0) (λ e. e.0) (λ e. e.0) y ≡ x → StmtClaim (roll-Stmt x)
rolled-Stmt x y is =
    let shown : StmtClaim (roll-Stmt (map-Stmt AnArgument ADeclaration ADeclarator AnExpr AFullExpression AnInitializer APrinted AStmt ABlock ALambda Argument Declaration Declarator Expr FullExpression Initializer Printed Stmt Block Lambda (λ e. e.0) (λ e. e.0) (λ e. e.0) (λ e. e.0) (λ e. e.0) (λ e. e.0) (λ e. e.0) (λ e. e.0) (λ e. e.0) (λ e. e.0) y)) = subst (λ m. StmtPlaces m) (sym (fold-roll-Stmt Ar De Dr Ex Fu In Pr St Bl La argument_step declaration_step declarator_step expr_step full_step initializer_step printed_step stmt_step block_step lambda_step (map-Stmt AnArgument ADeclaration ADeclarator AnExpr AFullExpression AnInitializer APrinted AStmt ABlock ALambda Argument Declaration Declarator Expr FullExpression Initializer Printed Stmt Block Lambda (λ e. e.0) (λ e. e.0) (λ e. e.0) (λ e. e.0) (λ e. e.0) (λ e. e.0) (λ e. e.0) (λ e. e.0) (λ e. e.0) (λ e. e.0) y))) (stmt_places y) in
    subst (λ z. StmtClaim (roll-Stmt z)) is shown

rolled-Block : (x : Block-F Argument Declaration Declarator Expr FullExpression Initializer Printed Stmt Block Lambda) (y : Block-F AnArgument ADeclaration ADeclarator AnExpr AFullExpression AnInitializer APrinted AStmt ABlock ALambda) → map-Block AnArgument ADeclaration ADeclarator AnExpr AFullExpression AnInitializer APrinted AStmt ABlock ALambda Argument Declaration Declarator Expr FullExpression Initializer Printed Stmt Block Lambda (λ e. e.0) (λ e. e.0) (λ e. e.0) (λ e. e.0) (λ e. e.0) (λ e. e.0) (λ e. e.0) (λ e. e.0) (λ e. e.0) (λ e. e.0) y ≡ x → BlockClaim (roll-Block x)
rolled-Block x y is =
    let shown : BlockClaim (roll-Block (map-Block AnArgument ADeclaration ADeclarator AnExpr AFullExpression AnInitializer APrinted AStmt ABlock ALambda Argument Declaration Declarator Expr FullExpression Initializer Printed Stmt Block Lambda (λ e. e.0) (λ e. e.0) (λ e. e.0) (λ e. e.0) (λ e. e.0) (λ e. e.0) (λ e. e.0) (λ e. e.0) (λ e. e.0) (λ e. e.0) y)) = subst (λ m. BlockPlaces m) (sym (fold-roll-Block Ar De Dr Ex Fu In Pr St Bl La argument_step declaration_step declarator_step expr_step full_step initializer_step printed_step stmt_step block_step lambda_step (map-Block AnArgument ADeclaration ADeclarator AnExpr AFullExpression AnInitializer APrinted AStmt ABlock ALambda Argument Declaration Declarator Expr FullExpression Initializer Printed Stmt Block Lambda (λ e. e.0) (λ e. e.0) (λ e. e.0) (λ e. e.0) (λ e. e.0) (λ e. e.0) (λ e. e.0) (λ e. e.0) (λ e. e.0) (λ e. e.0) y))) (block_places y) in
    subst (λ z. BlockClaim (roll-Block z)) is shown

-- the other trees hold nothing that a block doesn't place itself
pub block_has_places : (b : Block) (n : Names) → HavePlaces (block b n).found
block_has_places = ind-Block ArgumentClaim DeclarationClaim DeclaratorClaim ExprClaim FullExpressionClaim InitializerClaim PrintedClaim StmtClaim BlockClaim LambdaClaim (λ x y is. tt) (λ x y is. tt) (λ x y is. tt) (λ x y is. tt) (λ x y is. tt) (λ x y is. tt) (λ x y is. tt) rolled-Stmt rolled-Block (λ x y is. tt)
