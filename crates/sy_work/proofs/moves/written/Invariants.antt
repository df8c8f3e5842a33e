-- the writes so far
use Rattle.std.proofs.Common.{◌≡◌, take}
use Rattle.sy_work.specs.Moves.{writes_from}
use Rattle.sy_work.proofs.moves.written.Given as goal

abbrev pub invariant-loop-k : goal.invariant-loop-k
invariant-loop-k l = l.items.items ≡ writes_from l.root l.from (take l.k l.numbers)
