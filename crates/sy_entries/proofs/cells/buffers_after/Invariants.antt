use Rattle.std.proofs.Common.{◌≡◌, take}
use Rattle.sy_needs.specs.Each.{each_from}
use Rattle.sy_onecopy.specs.Outcome.{buffer_after}
use Rattle.sy_entries.proofs.cells.buffers_after.Given as goal

abbrev pub invariant-loop-r : goal.invariant-loop-r
invariant-loop-r l = l.after.items ≡ each_from (buffer_after l.needs l.log) 0 (take l.r l.buffers)
