use Rattle.std.proofs.Common.{◌≡◌, drop, map}
use Rattle.sy_closures.proofs.StepLemmas.{behind}
use Rattle.sy_items.proofs.functions.parameters.Given as goal
use Rattle.sy_looks.specs.Looked.{looked}
use Rattle.sy_rules.specs.Outcome.{in_turn}
use Rattle.sy_rules.specs.Units.{one_parameter}

abbrev pub invariant-loop-p : goal.invariant-loop-p
invariant-loop-p l =
    behind l.vs (looked (in_turn (map one_parameter (drop l.p-index l.ps))) l.w) ≡ looked (in_turn (map one_parameter l.ps)) l.fn.w
