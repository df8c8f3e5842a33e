-- what is looked for is in the rest
use Rattle.std.proofs.Common.{◌≡◌, drop}
use Rattle.sy_access.specs.Logs.{logged}
use Rattle.sy_access.proofs.cells.Log.number.Given as goal

abbrev pub invariant-loop-cell : goal.invariant-loop-cell
invariant-loop-cell l = logged l.cell-items l.c ≡ logged (drop l.cell-index l.cell-items) l.c
