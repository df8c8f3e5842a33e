use Rattle.std.proofs.Common.{◌≡◌, ◌+◌, drop}
use Rattle.sy_onecopy.specs.Copies.{copies_from}
use Rattle.sy_entries.proofs.copies.copies.Given as goal

abbrev pub invariant-loop-r : goal.invariant-loop-r
invariant-loop-r l = l.total + copies_from l.entries l.r (drop l.r l.buffers) ≡ copies_from l.entries 0 l.buffers
