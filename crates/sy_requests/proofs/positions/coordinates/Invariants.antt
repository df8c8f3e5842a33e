use Rattle.std.proofs.Common.{◌≡◌, ◌++◌, length}
use Rattle.sy_meaning.specs.Library.{coordinates}
use Rattle.sy_requests.proofs.positions.coordinates.Given as goal

abbrev pub invariant-loop-rest : goal.invariant-loop-rest
invariant-loop-rest l = l.ids.items ++ coordinates l.left l.rest ≡ coordinates l.fn.item l.fn.extents

abbrev pub decreases-loop-rest : goal.decreases-loop-rest
decreases-loop-rest l = length l.rest
