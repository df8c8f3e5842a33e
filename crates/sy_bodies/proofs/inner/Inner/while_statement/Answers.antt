use Rattle.std.proofs.Common.{ap, ◌∙◌}
use Rattle.sy_bodies.proofs.StepLemmas.{placed_step}
use Rattle.sy_bodies.proofs.inner.Inner.while_statement.Goals as goal
use Rattle.sy_looks.proofs.LookLemmas.{chained, found_beside}
use Rattle.sy_rules.specs.Outcome.{and_then}
use Rattle.sy_rules.specs.Walk.{body, expr, looped, part, stmt, stmt_judged, while_loop}
use Rattle.sy_tree.specs.declared.tree.Argument.TheOpen.{Stmt-F}
use Rattle.sy_typed.specs.declared.tree.TypedStmt.TheVariants as typed

pub returns : goal.returns
returns g c =
    let there = c.begin_statement-outside.new.w in
    let s = c.args.s in
    let a = part (expr c.args.c.now) in
    let b = looped (body (stmt c.args.a.now)) in
    let m = c.part.new.w in
    let end = c.judge_while-tree.new.w in
    let r = c.judge_while-tree.result in
    let two = c.in_ok-test-2 in
    placed_step c.args.own s (while_loop s (expr c.args.c.now) (stmt c.args.a.now)) c.args.w.now there _ _ _ c.begin_statement-outside.ensures.there c.begin_statement-outside.ensures.outside
    (chained a (λ p n. and_then (b n) (λ q. stmt_judged (Stmt-F.While s p.0 tt) (typed.While s p.1 q))) there m end two.test r
    (ap (λ p. (p, m)) two.ensures.ok.0 ∙ c.in_ok-test.ensures)
    (chained b (λ q. stmt_judged (Stmt-F.While s two.test.0 tt) (typed.While s two.test.1 q)) m c.looped_body.new.w end two.inside r
    (found_beside b m c.looped_body.new.w c.looped_body.result two.inside two.ensures.ok.1 c.looped_body.ensures)
    c.judge_while-tree.ensures))
