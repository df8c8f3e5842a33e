use Rattle.std.proofs.Common.{◌≡◌, drop}
use Rattle.sy_foot.specs.Runs.{element_at}
use Rattle.sy_foot.proofs.runs.element_of.Given as goal

abbrev pub invariant-loop-run : goal.invariant-loop-run
invariant-loop-run l = element_at (drop l.run-index l.runs) l.left ≡ element_at l.runs l.number
