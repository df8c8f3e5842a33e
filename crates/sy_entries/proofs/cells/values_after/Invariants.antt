use Rattle.std.proofs.Common.{◌≡◌, take}
use Rattle.sy_needs.specs.Each.{each_from}
use Rattle.sy_needs.specs.Elements.{cell_after}
use Rattle.sy_entries.proofs.cells.values_after.Given as goal

abbrev pub invariant-loop-i : goal.invariant-loop-i
invariant-loop-i l = l.after.items ≡ each_from (cell_after l.needs l.log l.r) 0 (take l.i l.values)
