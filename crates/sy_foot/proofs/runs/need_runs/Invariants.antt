use Rattle.std.proofs.Common.{◌≡◌, [], drop}
use Rattle.sy_foot.specs.Runs.{runs_with}
use Rattle.sy_foot.proofs.runs.need_runs.Given as goal

abbrev pub invariant-loop-need : goal.invariant-loop-need
invariant-loop-need l = runs_with l.runs.items (drop l.need-index l.needs) ≡ runs_with [] l.needs
