use Rattle.sy_closures.proofs.StepLemmas.{looked_by}
use Rattle.sy_closures.proofs.bodies.lambda_parameter.Goals as goal
use Rattle.sy_rules.specs.Walk.{one_lambda_parameter}

pub returns : goal.returns
returns c =
    looked_by (one_lambda_parameter c.args.role c.args.p.now) c.args.w.now _ _ _
    c.in_ok-v.ensures.value (c.in_ok-v.ensures.found c.args.w.now.place) c.in_ok-v.ensures.names
