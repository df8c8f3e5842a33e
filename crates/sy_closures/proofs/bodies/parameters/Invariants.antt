use Rattle.std.proofs.Common.{◌≡◌, drop, map}
use Rattle.sy_closures.proofs.StepLemmas.{behind}
use Rattle.sy_closures.proofs.bodies.parameters.Given as goal
use Rattle.sy_looks.specs.Looked.{looked}
use Rattle.sy_rules.specs.Outcome.{in_turn}
use Rattle.sy_rules.specs.Walk.{one_lambda_parameter}

abbrev pub invariant-loop-p : goal.invariant-loop-p
invariant-loop-p l =
    behind l.vs (looked (in_turn (map (one_lambda_parameter l.role) (drop l.p-index l.ps))) l.w)
    ≡ looked (in_turn (map (one_lambda_parameter l.role) l.ps)) l.fn.w
