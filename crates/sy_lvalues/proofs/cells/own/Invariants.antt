use Rattle.std.proofs.Common.{◌≡◌, drop}
use Rattle.sy_meaning.specs.Locations.{own}
use Rattle.sy_lvalues.proofs.cells.own.Given as goal

-- what is looked for is in the rest
abbrev pub invariant-loop-at : goal.invariant-loop-at
invariant-loop-at l = own (drop l.at l.steps) l.cell ≡ own l.steps l.cell
