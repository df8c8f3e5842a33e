use Rattle.sy_bodies.proofs.StepLemmas.{scoped_step}
use Rattle.sy_bodies.proofs.inner.Inner.body.Goals as goal
use Rattle.sy_rules.specs.Walk.{stmt}
use Rattle.sy_rules.specs.declared.statements.Standing.TheVariants as standing

pub returns : goal.returns
returns g c = scoped_step (stmt c.args.s.now standing.AsBody) c.args.w.now _ _ _ _ c.in_ok-enter.ensures.ok c.in_ok-tree.ensures c.leave.ensures
