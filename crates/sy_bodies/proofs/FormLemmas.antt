-- What a statement, a block and a full expression are looked at as, form by form.
use Rattle.std.proofs.Common.{◌≡◌, refl, Bool, List, [], ◌∷◌, Option, Some, None, map, ap, sym, ◌∙◌}
use Rattle.sy_bodies.specs.Trees.{maybe_expr, maybe_full, maybe_stmt}
use Rattle.sy_declare.specs.Trees.{declaration, full, printed}
use Rattle.sy_note.specs.declared.Spot.{Spot}
use Rattle.sy_rules.specs.declared.statements.Standing.TheVariants as standing
use Rattle.sy_rules.specs.Outcome.{Look, in_turn, known_as}
use Rattle.sy_rules.specs.Walk.{Ar, De, Dr, Ex, Fu, In, Pr, St, Bl, La, argument_step, declaration_step, declarator_step, expr_step, full_step, initializer_step, printed_step, stmt_step, block_step, lambda_step, expr, stmt, block}
use Rattle.sy_tree.specs.declared.operators.AssignmentOperator.{AssignmentOperator}
use Rattle.sy_tree.specs.declared.parts.Lexeme.{Lexeme}
use Rattle.sy_tree.specs.declared.parts.Qualified.{Qualified}
use Rattle.sy_tree.specs.declared.parts.TypeSpecifier.{TypeSpecifier}
use Rattle.sy_tree.specs.declared.tree.Argument.TheOpen.{FullExpression-F, Stmt-F}
use Rattle.sy_tree.specs.declared.tree.Block.{Block, fold-roll-Block, out-Block, roll-out-Block}
use Rattle.sy_tree.specs.declared.tree.Declaration.{Declaration}
use Rattle.sy_tree.specs.declared.tree.Expr.{Expr}
use Rattle.sy_tree.specs.declared.tree.FullExpression.{FullExpression, fold-roll-FullExpression}
use Rattle.sy_tree.specs.declared.tree.FullExpression.TheVariants as full_tree
use Rattle.sy_tree.specs.declared.tree.Printed.{Printed}
use Rattle.sy_tree.specs.declared.tree.Stmt.{Stmt, fold-roll-Stmt}
use Rattle.sy_tree.specs.declared.tree.Stmt.TheVariants as tree
use Rattle.sy_typed.specs.declared.tree.TypedBlock.{roll-TypedBlock}
use Rattle.sy_typed.specs.declared.tree.TypedStmt.{TypedStmt}

-- ---- statements

pub compound_is : (b : Block) → stmt (tree.Compound b) ≡ stmt_step (Stmt-F.Compound (block b))
compound_is b = ap stmt (sym (tree.rolls-Compound b)) ∙ fold-roll-Stmt Ar De Dr Ex Fu In Pr St Bl La argument_step declaration_step declarator_step expr_step full_step initializer_step printed_step stmt_step block_step lambda_step (Stmt-F.Compound b)

pub null_is : (s : Spot) → stmt (tree.Null s) ≡ stmt_step (Stmt-F.Null s)
null_is s = ap stmt (sym (tree.rolls-Null s)) ∙ fold-roll-Stmt Ar De Dr Ex Fu In Pr St Bl La argument_step declaration_step declarator_step expr_step full_step initializer_step printed_step stmt_step block_step lambda_step (Stmt-F.Null s)

pub declaration_is : (d : Declaration) → stmt (tree.Declaration d) ≡ stmt_step (Stmt-F.Declaration (declaration d))
declaration_is d = ap stmt (sym (tree.rolls-Declaration d)) ∙ fold-roll-Stmt Ar De Dr Ex Fu In Pr St Bl La argument_step declaration_step declarator_step expr_step full_step initializer_step printed_step stmt_step block_step lambda_step (Stmt-F.Declaration d)

pub expression_is : (f : FullExpression) (e : Spot) → stmt (tree.Expression f e) ≡ stmt_step (Stmt-F.Expression (full f) e)
expression_is f e = ap stmt (sym (tree.rolls-Expression f e)) ∙ fold-roll-Stmt Ar De Dr Ex Fu In Pr St Bl La argument_step declaration_step declarator_step expr_step full_step initializer_step printed_step stmt_step block_step lambda_step (Stmt-F.Expression f e)

pub print_is : (q : Qualified) (xs : List Printed) (e : Spot) → stmt (tree.Print q xs e) ≡ stmt_step (Stmt-F.Print q (map printed xs) e)
print_is q xs e = ap stmt (sym (tree.rolls-Print q xs e)) ∙ fold-roll-Stmt Ar De Dr Ex Fu In Pr St Bl La argument_step declaration_step declarator_step expr_step full_step initializer_step printed_step stmt_step block_step lambda_step (Stmt-F.Print q xs e)

pub break_is : (s e : Spot) → stmt (tree.Break s e) ≡ stmt_step (Stmt-F.Break s e)
break_is s e = ap stmt (sym (tree.rolls-Break s e)) ∙ fold-roll-Stmt Ar De Dr Ex Fu In Pr St Bl La argument_step declaration_step declarator_step expr_step full_step initializer_step printed_step stmt_step block_step lambda_step (Stmt-F.Break s e)

pub continue_is : (s e : Spot) → stmt (tree.Continue s e) ≡ stmt_step (Stmt-F.Continue s e)
continue_is s e = ap stmt (sym (tree.rolls-Continue s e)) ∙ fold-roll-Stmt Ar De Dr Ex Fu In Pr St Bl La argument_step declaration_step declarator_step expr_step full_step initializer_step printed_step stmt_step block_step lambda_step (Stmt-F.Continue s e)

pub return_is : (s : Spot) (a : Option Expr) (e : Spot) → stmt (tree.Return s a e) ≡ stmt_step (Stmt-F.Return s (maybe_expr a) e)
return_is s None e = ap stmt (sym (tree.rolls-Return s None e)) ∙ fold-roll-Stmt Ar De Dr Ex Fu In Pr St Bl La argument_step declaration_step declarator_step expr_step full_step initializer_step printed_step stmt_step block_step lambda_step (Stmt-F.Return s None e)
return_is s (Some a) e = ap stmt (sym (tree.rolls-Return s (Some a) e)) ∙ fold-roll-Stmt Ar De Dr Ex Fu In Pr St Bl La argument_step declaration_step declarator_step expr_step full_step initializer_step printed_step stmt_step block_step lambda_step (Stmt-F.Return s (Some a) e)

pub if_is : (s : Spot) (c : Expr) (a : Stmt) (b : Option Stmt) → stmt (tree.If s c a b) ≡ stmt_step (Stmt-F.If s (expr c) (stmt a) (maybe_stmt b))
if_is s c a None = ap stmt (sym (tree.rolls-If s c a None)) ∙ fold-roll-Stmt Ar De Dr Ex Fu In Pr St Bl La argument_step declaration_step declarator_step expr_step full_step initializer_step printed_step stmt_step block_step lambda_step (Stmt-F.If s c a None)
if_is s c a (Some b) = ap stmt (sym (tree.rolls-If s c a (Some b))) ∙ fold-roll-Stmt Ar De Dr Ex Fu In Pr St Bl La argument_step declaration_step declarator_step expr_step full_step initializer_step printed_step stmt_step block_step lambda_step (Stmt-F.If s c a (Some b))

pub while_is : (s : Spot) (c : Expr) (a : Stmt) → stmt (tree.While s c a) ≡ stmt_step (Stmt-F.While s (expr c) (stmt a))
while_is s c a = ap stmt (sym (tree.rolls-While s c a)) ∙ fold-roll-Stmt Ar De Dr Ex Fu In Pr St Bl La argument_step declaration_step declarator_step expr_step full_step initializer_step printed_step stmt_step block_step lambda_step (Stmt-F.While s c a)

pub do_is : (s : Spot) (a : Stmt) (c : Expr) (e : Spot) → stmt (tree.Do s a c e) ≡ stmt_step (Stmt-F.Do s (stmt a) (expr c) e)
do_is s a c e = ap stmt (sym (tree.rolls-Do s a c e)) ∙ fold-roll-Stmt Ar De Dr Ex Fu In Pr St Bl La argument_step declaration_step declarator_step expr_step full_step initializer_step printed_step stmt_step block_step lambda_step (Stmt-F.Do s a c e)

pub for_is : (s : Spot) (i : Stmt) (c : Option Expr) (f : Option FullExpression) (a : Stmt) → stmt (tree.For s i c f a) ≡ stmt_step (Stmt-F.For s (stmt i) (maybe_expr c) (maybe_full f) (stmt a))
for_is s i None None a = ap stmt (sym (tree.rolls-For s i None None a)) ∙ fold-roll-Stmt Ar De Dr Ex Fu In Pr St Bl La argument_step declaration_step declarator_step expr_step full_step initializer_step printed_step stmt_step block_step lambda_step (Stmt-F.For s i None None a)
for_is s i None (Some f) a = ap stmt (sym (tree.rolls-For s i None (Some f) a)) ∙ fold-roll-Stmt Ar De Dr Ex Fu In Pr St Bl La argument_step declaration_step declarator_step expr_step full_step initializer_step printed_step stmt_step block_step lambda_step (Stmt-F.For s i None (Some f) a)
for_is s i (Some c) None a = ap stmt (sym (tree.rolls-For s i (Some c) None a)) ∙ fold-roll-Stmt Ar De Dr Ex Fu In Pr St Bl La argument_step declaration_step declarator_step expr_step full_step initializer_step printed_step stmt_step block_step lambda_step (Stmt-F.For s i (Some c) None a)
for_is s i (Some c) (Some f) a = ap stmt (sym (tree.rolls-For s i (Some c) (Some f) a)) ∙ fold-roll-Stmt Ar De Dr Ex Fu In Pr St Bl La argument_step declaration_step declarator_step expr_step full_step initializer_step printed_step stmt_step block_step lambda_step (Stmt-F.For s i (Some c) (Some f) a)

pub range_for_is : (s : Spot) (c : Bool) (t : TypeSpecifier) (r : Bool) (x v : Lexeme) (a : Stmt) → stmt (tree.RangeFor s c t r x v a) ≡ stmt_step (Stmt-F.RangeFor s c t r x v (stmt a))
range_for_is s c t r x v a = ap stmt (sym (tree.rolls-RangeFor s c t r x v a)) ∙ fold-roll-Stmt Ar De Dr Ex Fu In Pr St Bl La argument_step declaration_step declarator_step expr_step full_step initializer_step printed_step stmt_step block_step lambda_step (Stmt-F.RangeFor s c t r x v a)

pub try_is : (s : Spot) (a : Block) (x : Lexeme) (b : Block) → stmt (tree.Try s a x b) ≡ stmt_step (Stmt-F.Try s (block a) x (block b))
try_is s a x b = ap stmt (sym (tree.rolls-Try s a x b)) ∙ fold-roll-Stmt Ar De Dr Ex Fu In Pr St Bl La argument_step declaration_step declarator_step expr_step full_step initializer_step printed_step stmt_step block_step lambda_step (Stmt-F.Try s a x b)

-- ---- full expressions

pub plain_is : (a : Expr) → full (full_tree.Plain a) ≡ full_step (FullExpression-F.Plain (expr a))
plain_is a = ap full (sym (full_tree.rolls-Plain a)) ∙ fold-roll-FullExpression Ar De Dr Ex Fu In Pr St Bl La argument_step declaration_step declarator_step expr_step full_step initializer_step printed_step stmt_step block_step lambda_step (FullExpression-F.Plain a)

pub assignment_is : (t : Expr) (s : Spot) (op : AssignmentOperator) (v : Expr) → full (full_tree.Assignment t s op v) ≡ full_step (FullExpression-F.Assignment (expr t) s op (expr v))
assignment_is t s op v = ap full (sym (full_tree.rolls-Assignment t s op v)) ∙ fold-roll-FullExpression Ar De Dr Ex Fu In Pr St Bl La argument_step declaration_step declarator_step expr_step full_step initializer_step printed_step stmt_step block_step lambda_step (FullExpression-F.Assignment t s op v)

-- ---- blocks

each_in_list : (ss : List Stmt) → map (λ s. s standing.InList) (map stmt ss) ≡ map (λ s. stmt s standing.InList) ss
each_in_list [] = refl
each_in_list (s ∷ more) = ap (λ l. stmt s standing.InList ∷ l) (each_in_list more)

pub block_is : (b : Block) → block b ≡ (λ n. known_as (λ xs. roll-TypedBlock (record { statements = xs; close = (out-Block b).close })) (in_turn (map (λ s. stmt s standing.InList) (out-Block b).statements) n))
block_is b =
    ap block (sym (roll-out-Block b))
    ∙ fold-roll-Block Ar De Dr Ex Fu In Pr St Bl La argument_step declaration_step declarator_step expr_step full_step initializer_step printed_step stmt_step block_step lambda_step (out-Block b)
    ∙ ap {A = List (Look TypedStmt)} (λ l. λ n. known_as (λ xs. roll-TypedBlock (record { statements = xs; close = (out-Block b).close })) (in_turn l n)) (each_in_list (out-Block b).statements)
