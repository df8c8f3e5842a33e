use Rattle.std.proofs.Common.{◌≡◌, take, map}
use Rattle.sy_onecopy.specs.Outcome.{input}
use Rattle.sy_entries.proofs.cells.inputs.Given as goal

abbrev pub invariant-loop-n : goal.invariant-loop-n
invariant-loop-n l = l.given.items ≡ map (input l.buffers l.needs) (take l.n-index l.needs)
