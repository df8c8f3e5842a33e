use Rattle.std.proofs.Common.{None, ap, ◌∙◌}
use Rattle.sy_bodies.proofs.StepLemmas.{placed_step}
use Rattle.sy_bodies.proofs.inner.Inner.if_statement.Goals as goal
use Rattle.sy_bodies.specs.Trees.{maybe_stmt}
use Rattle.sy_looks.proofs.LookLemmas.{chained, found_beside}
use Rattle.sy_rules.specs.Outcome.{and_then}
use Rattle.sy_rules.specs.Walk.{body, branching, expr, maybe, part, stmt, stmt_judged}
use Rattle.sy_tree.specs.declared.tree.Argument.TheOpen.{Stmt-F}
use Rattle.sy_typed.specs.declared.tree.TypedStmt.TheVariants as typed

pub returns : goal.returns
returns g c =
    let there = c.begin_statement-outside.new.w in
    let s = c.args.s in
    let a = part (expr c.args.c.now) in
    let b = body (stmt c.args.a.now) in
    let d = maybe body (maybe_stmt c.args.b.now) in
    let m = c.part.new.w in
    let k = c.body.new.w in
    let end = c.judge_if-tree.new.w in
    let r = c.judge_if-tree.result in
    let three = c.in_ok-test-3 in
    let two = c.in_ok-test-2 in
    placed_step c.args.own s (branching s (expr c.args.c.now) (stmt c.args.a.now) (maybe_stmt c.args.b.now)) c.args.w.now there _ _ _ c.begin_statement-outside.ensures.there c.begin_statement-outside.ensures.outside
    (chained a (λ p n. and_then (b n) (λ x j. and_then (d j) (λ y. stmt_judged (Stmt-F.If s p.0 tt None) (typed.If s p.1 x y)))) there m end three.test r
    (ap (λ p. (p.0, m)) three.ensures.ok.0 ∙ ap (λ p. (p, m)) two.ensures.ok.0 ∙ c.in_ok-test.ensures)
    (chained b (λ x j. and_then (d j) (λ y. stmt_judged (Stmt-F.If s three.test.0 tt None) (typed.If s three.test.1 x y))) m k end three.yes r
    (ap (λ p. (p.1, k)) three.ensures.ok.0 ∙ found_beside b m k c.body.result two.yes two.ensures.ok.1 c.body.ensures)
    (chained d (λ y. stmt_judged (Stmt-F.If s three.test.0 tt None) (typed.If s three.test.1 three.yes y)) k c.else_branch.new.w end three.no r
    (found_beside d k c.else_branch.new.w c.else_branch.result three.no three.ensures.ok.1 c.else_branch.ensures)
    c.judge_if-tree.ensures)))
