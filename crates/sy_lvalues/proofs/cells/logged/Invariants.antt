use Rattle.std.proofs.Common.{◌≡◌, length}
use Rattle.sy_access.specs.Logs.{logged}
use Rattle.sy_lvalues.proofs.cells.logged.Given as goal

-- what is looked for is in the rest
abbrev pub invariant-loop-rest : goal.invariant-loop-rest
invariant-loop-rest l = logged l.rest l.cell ≡ logged l.cells l.cell

abbrev pub decreases-loop-rest : goal.decreases-loop-rest
decreases-loop-rest l = length l.rest
