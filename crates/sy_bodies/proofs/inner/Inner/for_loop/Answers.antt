use Rattle.std.proofs.Common.{None, ap, false, ◌∙◌}
use Rattle.sy_bodies.proofs.inner.Inner.for_loop.Goals as goal
use Rattle.sy_bodies.specs.Trees.{maybe_expr, maybe_full}
use Rattle.sy_looks.proofs.LookLemmas.{chained, found_beside}
use Rattle.sy_rules.specs.Outcome.{and_then}
use Rattle.sy_rules.specs.Walk.{first_seen, first_typed, full_typed, looped, maybe, part, stmt, stmt_judged}
use Rattle.sy_rules.specs.declared.statements.Standing.TheVariants as standing
use Rattle.sy_tree.specs.declared.tree.Argument.TheOpen.{Stmt-F}
use Rattle.sy_typed.specs.declared.tree.TypedStmt.TheVariants as typed

pub returns : goal.returns
returns g c =
    let w = c.args.w.now in
    let s = c.args.s in
    let a = stmt c.args.i.now standing.InHead in
    let b = maybe part (maybe_expr c.args.c.now) in
    let d = maybe (λ g. g false) (maybe_full c.args.f.now) in
    let e = looped (stmt c.args.a.now standing.AsBody) in
    let m = c.boxed_stmt.new.w in
    let k = c.maybe_part.new.w in
    let j = c.maybe_full.new.w in
    let end = c.judge_for.new.w in
    let r = c.judge_for.result in
    let four = c.in_ok-head-4 in
    let three = c.in_ok-head-3 in
    let two = c.in_ok-head-2 in
    chained a (λ x n. and_then (b n) (λ p i. and_then (d i) (λ q h. and_then (e h) (λ y. stmt_judged (Stmt-F.For s tt (first_seen p) None tt) (typed.For s x (first_typed p) (full_typed q) y))))) w m end four.head r
    (ap (λ p. (p.0, m)) four.ensures.ok.0 ∙ ap (λ p. (p.0, m)) three.ensures.ok.0 ∙ ap (λ p. (p, m)) two.ensures.ok.0 ∙ c.in_ok-head.ensures)
    (chained b (λ p i. and_then (d i) (λ q h. and_then (e h) (λ y. stmt_judged (Stmt-F.For s tt (first_seen p) None tt) (typed.For s four.head (first_typed p) (full_typed q) y)))) m k end four.test r
    (ap (λ p. (p.1, k)) four.ensures.ok.0 ∙ ap (λ p. (p.1, k)) three.ensures.ok.0 ∙ found_beside b m k c.maybe_part.result two.test two.ensures.ok.1 c.maybe_part.ensures)
    (chained d (λ q h. and_then (e h) (λ y. stmt_judged (Stmt-F.For s tt (first_seen four.test) None tt) (typed.For s four.head (first_typed four.test) (full_typed q) y))) k j end four.step r
    (ap (λ p. (p.2, j)) four.ensures.ok.0 ∙ found_beside d k j c.maybe_full.result three.step three.ensures.ok.1 c.maybe_full.ensures)
    (chained e (λ y. stmt_judged (Stmt-F.For s tt (first_seen four.test) None tt) (typed.For s four.head (first_typed four.test) (full_typed four.step) y)) j c.looped.new.w end four.inside r
    (found_beside e j c.looped.new.w c.looped.result four.inside four.ensures.ok.1 c.looped.ensures)
    c.judge_for.ensures)))
