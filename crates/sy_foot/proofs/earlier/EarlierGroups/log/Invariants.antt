use Rattle.std.proofs.Common.{◌≡◌, ◌++◌, drop}
use Rattle.sy_foot.specs.GroupLogs.{cell_log}
use Rattle.sy_foot.proofs.earlier.EarlierGroups.log.Given as goal

abbrev pub invariant-loop-number : goal.invariant-loop-number
invariant-loop-number l = l.items.items ++ cell_log l.numbers (drop l.number-index l.number-items) ≡ cell_log l.numbers l.self.log.items
