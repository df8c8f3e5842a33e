use Rattle.sy_closures.proofs.StepLemmas.{setting_step}
use Rattle.sy_closures.proofs.bodies.Bodies.lambda_inside.Goals as goal
use Rattle.sy_rules.specs.Names.{scoped}
use Rattle.sy_rules.specs.Walk.{block, inside, parameters_and_body}

pub returns : goal.returns
returns g c =
    setting_step (inside c.args.role c.args.outside) (scoped (parameters_and_body c.args.role c.args.ps.now (block c.args.b.now))) c.args.w.now _ _ _ _ _ _
    c.setting-setting.ensures c.inside.ensures c.set.ensures c.in_ok-found.ensures c.set-2.ensures
