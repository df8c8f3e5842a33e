use Rattle.std.proofs.Common.{ap, ◌∙◌}
use Rattle.sy_bodies.proofs.StepLemmas.{placed_step}
use Rattle.sy_bodies.proofs.inner.Inner.do_statement.Goals as goal
use Rattle.sy_looks.proofs.LookLemmas.{chained, found_beside}
use Rattle.sy_rules.specs.Outcome.{and_then}
use Rattle.sy_rules.specs.Walk.{body, do_loop, expr, looped, part, stmt, stmt_judged}
use Rattle.sy_tree.specs.declared.tree.Argument.TheOpen.{Stmt-F}
use Rattle.sy_typed.specs.declared.tree.TypedStmt.TheVariants as typed

pub returns : goal.returns
returns g c =
    let there = c.begin_statement-outside.new.w in
    let s = c.args.s in
    let a = looped (body (stmt c.args.a.now)) in
    let b = part (expr c.args.c.now) in
    let m = c.looped_body.new.w in
    let end = c.judge_do-tree.new.w in
    let r = c.judge_do-tree.result in
    let two = c.in_ok-inside-2 in
    placed_step c.args.own s (do_loop s (stmt c.args.a.now) (expr c.args.c.now) c.args.e) c.args.w.now there _ _ _ c.begin_statement-outside.ensures.there c.begin_statement-outside.ensures.outside
    (chained a (λ p n. and_then (b n) (λ q. stmt_judged (Stmt-F.Do s tt q.0 c.args.e) (typed.Do s p q.1 c.args.e))) there m end two.inside r
    (ap (λ p. (p, m)) two.ensures.ok.0 ∙ c.in_ok-inside.ensures)
    (chained b (λ q. stmt_judged (Stmt-F.Do s tt q.0 c.args.e) (typed.Do s two.inside q.1 c.args.e)) m c.part.new.w end two.test r
    (found_beside b m c.part.new.w c.part.result two.test two.ensures.ok.1 c.part.ensures)
    c.judge_do-tree.ensures))
