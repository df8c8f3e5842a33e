use Rattle.std.proofs.Common.{◌≡◌, take}
use Rattle.sy_requests.proofs.extents.extents_of.Given as goal

abbrev pub invariant-loop-k : goal.invariant-loop-k
invariant-loop-k l = l.extents.items ≡ take l.k l.range
