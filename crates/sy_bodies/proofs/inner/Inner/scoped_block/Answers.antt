use Rattle.sy_bodies.proofs.StepLemmas.{scoped_step}
use Rattle.sy_bodies.proofs.inner.Inner.scoped_block.Goals as goal
use Rattle.sy_rules.specs.Walk.{block}

pub returns : goal.returns
returns g c = scoped_step (block c.args.b.now) c.args.w.now _ _ _ _ c.in_ok-enter.ensures.ok c.in_ok-tree.ensures c.leave.ensures
