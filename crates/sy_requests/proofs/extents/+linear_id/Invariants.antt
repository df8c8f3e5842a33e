use Rattle.std.proofs.Common.{length}
use Rattle.sy_requests.proofs.extents.+linear_id.Given as goal

abbrev pub decreases-linear_id : goal.decreases-linear_id
decreases-linear_id l = length l.ids.now
