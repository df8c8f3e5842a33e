use Rattle.std.proofs.Common.{ap, map, sym, ◌∙◌}
use Rattle.sy_bodies.proofs.FormLemmas.{break_is, compound_is, continue_is, declaration_is, do_is, expression_is, for_is, if_is, null_is, print_is, range_for_is, return_is, try_is, while_is}
use Rattle.sy_bodies.proofs.inner.Inner.form.Goals as goal
use Rattle.sy_bodies.specs.Trees.{maybe_expr, maybe_full, maybe_stmt}
use Rattle.sy_declare.specs.Trees.{declaration, full, printed}
use Rattle.sy_looks.proofs.LookLemmas.{looked_as}
use Rattle.sy_looks.specs.Looked.{looked}
use Rattle.sy_rules.specs.Walk.{block, expr, stmt, stmt_step}
use Rattle.sy_tree.specs.declared.tree.Argument.TheOpen.{Stmt-F}

pub returns-in-Compound : goal.returns-in-Compound
returns-in-Compound g c =
    let i = c.in-Compound in
    looked_as (stmt c.args.tree.now c.args.standing) (stmt_step (Stmt-F.Compound (block i.b)) c.args.standing) c.args.w.now _ _ (ap (λ f. f c.args.standing) (ap stmt i.is ∙ compound_is i.b)) c.compound.ensures

pub returns-in-Declaration : goal.returns-in-Declaration
returns-in-Declaration g c =
    let i = c.in-Declaration in
    looked_as (stmt c.args.tree.now c.args.standing) (stmt_step (Stmt-F.Declaration (declaration i.d)) c.args.standing) c.args.w.now _ _ (ap (λ f. f c.args.standing) (ap stmt i.is ∙ declaration_is i.d)) c.declaration_statement.ensures

pub returns-in-Expression : goal.returns-in-Expression
returns-in-Expression g c =
    let i = c.in-Expression in
    looked_as (stmt c.args.tree.now c.args.standing) (stmt_step (Stmt-F.Expression (full i.f) i.e) c.args.standing) c.args.w.now _ _ (ap (λ f. f c.args.standing) (ap stmt i.is ∙ expression_is i.f i.e)) c.expression_statement.ensures

pub returns-in-Print : goal.returns-in-Print
returns-in-Print g c =
    let i = c.in-Print in
    looked_as (stmt c.args.tree.now c.args.standing) (stmt_step (Stmt-F.Print i.q (map printed i.xs) i.e) c.args.standing) c.args.w.now _ _ (ap (λ f. f c.args.standing) (ap stmt i.is ∙ print_is i.q i.xs i.e)) c.print_statement.ensures

pub returns-in-Break : goal.returns-in-Break
returns-in-Break g c = c.judge_break.ensures ∙ ap (λ l. looked (l c.args.standing) c.args.w.now) (sym (ap stmt c.in-Break.is ∙ break_is c.in-Break.s c.in-Break.e))

pub returns-in-Continue : goal.returns-in-Continue
returns-in-Continue g c = c.judge_continue.ensures ∙ ap (λ l. looked (l c.args.standing) c.args.w.now) (sym (ap stmt c.in-Continue.is ∙ continue_is c.in-Continue.s c.in-Continue.e))

pub returns-in-Return : goal.returns-in-Return
returns-in-Return g c =
    let i = c.in-Return in
    looked_as (stmt c.args.tree.now c.args.standing) (stmt_step (Stmt-F.Return i.s (maybe_expr i.a) i.e) c.args.standing) c.args.w.now _ _ (ap (λ f. f c.args.standing) (ap stmt i.is ∙ return_is i.s i.a i.e)) c.return_statement.ensures

pub returns-in-If : goal.returns-in-If
returns-in-If g c =
    let i = c.in-If in
    looked_as (stmt c.args.tree.now c.args.standing) (stmt_step (Stmt-F.If i.s (expr i.c) (stmt i.a) (maybe_stmt i.b)) c.args.standing) c.args.w.now _ _ (ap (λ f. f c.args.standing) (ap stmt i.is ∙ if_is i.s i.c i.a i.b)) c.if_statement.ensures

pub returns-in-While : goal.returns-in-While
returns-in-While g c =
    let i = c.in-While in
    looked_as (stmt c.args.tree.now c.args.standing) (stmt_step (Stmt-F.While i.s (expr i.c) (stmt i.a)) c.args.standing) c.args.w.now _ _ (ap (λ f. f c.args.standing) (ap stmt i.is ∙ while_is i.s i.c i.a)) c.while_statement.ensures

pub returns-in-Do : goal.returns-in-Do
returns-in-Do g c =
    let i = c.in-Do in
    looked_as (stmt c.args.tree.now c.args.standing) (stmt_step (Stmt-F.Do i.s (stmt i.a) (expr i.c) i.e) c.args.standing) c.args.w.now _ _ (ap (λ f. f c.args.standing) (ap stmt i.is ∙ do_is i.s i.a i.c i.e)) c.do_statement.ensures

pub returns-in-For : goal.returns-in-For
returns-in-For g c =
    let i = c.in-For in
    looked_as (stmt c.args.tree.now c.args.standing) (stmt_step (Stmt-F.For i.s (stmt i.i) (maybe_expr i.c) (maybe_full i.f) (stmt i.a)) c.args.standing) c.args.w.now _ _ (ap (λ f. f c.args.standing) (ap stmt i.is ∙ for_is i.s i.i i.c i.f i.a)) c.for_statement.ensures

pub returns-in-RangeFor : goal.returns-in-RangeFor
returns-in-RangeFor g c =
    let i = c.in-RangeFor in
    looked_as (stmt c.args.tree.now c.args.standing) (stmt_step (Stmt-F.RangeFor i.s i.c i.t i.r i.x i.v (stmt i.a)) c.args.standing) c.args.w.now _ _ (ap (λ f. f c.args.standing) (ap stmt i.is ∙ range_for_is i.s i.c i.t i.r i.x i.v i.a)) c.range_for_statement.ensures

pub returns-in-Try : goal.returns-in-Try
returns-in-Try g c =
    let i = c.in-Try in
    looked_as (stmt c.args.tree.now c.args.standing) (stmt_step (Stmt-F.Try i.s (block i.a) i.x (block i.b)) c.args.standing) c.args.w.now _ _ (ap (λ f. f c.args.standing) (ap stmt i.is ∙ try_is i.s i.a i.x i.b)) c.try_statement.ensures

pub returns-in-Null : goal.returns-in-Null
returns-in-Null g c = ap (λ l. looked (l c.args.standing) c.args.w.now) (sym (ap stmt c.in-Null.is ∙ null_is c.in-Null.s))
