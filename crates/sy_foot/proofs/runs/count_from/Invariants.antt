use Rattle.std.proofs.Common.{◌≡◌, ◌+◌, drop}
use Rattle.sy_foot.specs.Runs.{total}
use Rattle.sy_foot.proofs.runs.count_from.Given as goal

abbrev pub invariant-loop-run : goal.invariant-loop-run
invariant-loop-run l = l.count + total (drop l.run-index l.runs) ≡ l.start + total l.runs
