use Rattle.sy_bodies.proofs.StepLemmas.{placed_step}
use Rattle.sy_bodies.proofs.inner.Inner.return_statement.Goals as goal
use Rattle.sy_bodies.specs.Trees.{maybe_expr}
use Rattle.sy_looks.proofs.LookLemmas.{chained}
use Rattle.sy_rules.specs.Walk.{first_seen, first_typed, maybe, part, returning, stmt_judged}
use Rattle.sy_tree.specs.declared.tree.Argument.TheOpen.{Stmt-F}
use Rattle.sy_typed.specs.declared.tree.TypedStmt.TheVariants as typed

pub returns : goal.returns
returns g c =
    let there = c.begin_statement-outside.new.w in
    let s = c.args.s in
    let e = c.args.e in
    let a = maybe part (maybe_expr c.args.a.now) in
    placed_step c.args.own s (returning s (maybe_expr c.args.a.now) e) c.args.w.now there _ _ _ c.begin_statement-outside.ensures.there c.begin_statement-outside.ensures.outside
    (chained a (λ p. stmt_judged (Stmt-F.Return s (first_seen p) e) (typed.Return s (first_typed p) e)) there _ _ c.in_ok-value.value c.judge_return-tree.result c.in_ok-value.ensures c.judge_return-tree.ensures)
