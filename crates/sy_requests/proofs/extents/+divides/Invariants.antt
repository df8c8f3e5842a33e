use Rattle.std.proofs.Common.{length}
use Rattle.sy_requests.proofs.extents.+divides.Given as goal

abbrev pub decreases-divides : goal.decreases-divides
decreases-divides l = length l.parts.now
