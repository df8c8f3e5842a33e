use Rattle.sy_closures.proofs.StepLemmas.{scoped_step}
use Rattle.sy_closures.proofs.bodies.Bodies.in_scope.Goals as goal
use Rattle.sy_rules.specs.Walk.{block, parameters_and_body}

pub returns : goal.returns
returns g c =
    scoped_step (parameters_and_body c.args.role c.args.ps.now (block c.args.b.now)) c.args.w.now _ _ _ _
    c.in_ok-enter.ensures.ok c.in_ok-found.ensures c.leave.ensures
