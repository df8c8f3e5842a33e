use Rattle.sy_closures.proofs.StepLemmas.{scoped_step}
use Rattle.sy_items.proofs.functions.in_scope.Goals as goal
use Rattle.sy_rules.specs.Units.{parameters_then_body}
use Rattle.sy_rules.specs.Walk.{block}

pub returns : goal.returns
returns g c =
    scoped_step (parameters_then_body c.args.ps.now (block c.args.b.now)) c.args.w.now _ _ _ _
    c.in_ok-enter.ensures.ok c.in_ok-found.ensures c.leave.ensures
