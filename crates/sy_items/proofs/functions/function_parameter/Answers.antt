use Rattle.sy_closures.proofs.StepLemmas.{looked_by}
use Rattle.sy_items.proofs.functions.function_parameter.Goals as goal
use Rattle.sy_rules.specs.Units.{one_parameter}

pub returns : goal.returns
returns c =
    looked_by (one_parameter c.args.p.now) c.args.w.now _ _ _
    c.in_ok-v.ensures.value (c.in_ok-v.ensures.found c.args.w.now.place) c.in_ok-v.ensures.names
