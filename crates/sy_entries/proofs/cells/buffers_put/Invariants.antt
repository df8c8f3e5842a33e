use Rattle.std.proofs.Common.{◌≡◌, take}
use Rattle.sy_needs.specs.Each.{each_from}
use Rattle.sy_onecopy.specs.Step.{buffer_put}
use Rattle.sy_entries.proofs.cells.buffers_put.Given as goal

abbrev pub invariant-loop-r : goal.invariant-loop-r
invariant-loop-r l = l.after.items ≡ each_from (buffer_put l.n l.given) 0 (take l.r l.buffers)
