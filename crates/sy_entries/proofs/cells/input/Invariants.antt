use Rattle.std.proofs.Common.{◌≡◌, take}
use Rattle.sy_needs.specs.Each.{each_from}
use Rattle.sy_needs.specs.Elements.{at_start}
use Rattle.sy_entries.proofs.cells.input.Given as goal

abbrev pub invariant-loop-i : goal.invariant-loop-i
invariant-loop-i l = l.given.items ≡ each_from (at_start l.needs l.n.buffer) l.n.from (take l.i l.run)
