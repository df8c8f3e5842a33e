use Rattle.std.proofs.Common.{◌≡◌, take}
use Rattle.sy_needs.specs.Each.{each_from}
use Rattle.sy_onecopy.specs.Step.{cell_put}
use Rattle.sy_entries.proofs.cells.values_put.Given as goal

abbrev pub invariant-loop-i : goal.invariant-loop-i
invariant-loop-i l = l.after.items ≡ each_from (cell_put l.n l.given l.r) 0 (take l.i l.values)
