use Rattle.sy_bodies.proofs.StepLemmas.{placed_step, scoped_step}
use Rattle.sy_bodies.proofs.inner.Inner.for_statement.Goals as goal
use Rattle.sy_bodies.specs.Trees.{maybe_expr, maybe_full}
use Rattle.sy_rules.specs.Names.{scoped}
use Rattle.sy_rules.specs.Walk.{for_loop, stmt}

pub returns : goal.returns
returns g c =
    let a = for_loop c.args.s (stmt c.args.i.now) (maybe_expr c.args.c.now) (maybe_full c.args.f.now) (stmt c.args.a.now) in
    placed_step c.args.own c.args.s (scoped a) c.args.w.now c.begin_statement-outside.new.w _ _ _ c.begin_statement-outside.ensures.there c.begin_statement-outside.ensures.outside
    (scoped_step a c.begin_statement-outside.new.w _ _ _ _ c.in_ok-enter.ensures.ok c.in_ok-tree.ensures c.leave.ensures)
