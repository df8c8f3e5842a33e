use Rattle.sy_bodies.proofs.StepLemmas.{placed_step, scoped_step}
use Rattle.sy_bodies.proofs.inner.Inner.range_for_statement.Goals as goal
use Rattle.sy_rules.specs.Names.{scoped}
use Rattle.sy_rules.specs.Walk.{range_for, stmt}

pub returns : goal.returns
returns g c =
    let a = range_for c.args.s c.args.e.is_const c.args.e.of c.args.e.by_reference c.args.x.now c.args.v.now (stmt c.args.a.now) in
    placed_step c.args.own c.args.s (scoped a) c.args.w.now c.begin_statement-outside.new.w _ _ _ c.begin_statement-outside.ensures.there c.begin_statement-outside.ensures.outside
    (scoped_step a c.begin_statement-outside.new.w _ _ _ _ c.in_ok-enter.ensures.ok c.in_ok-tree.ensures c.leave.ensures)
