use Rattle.std.proofs.Common.{length}
use Rattle.sy_requests.proofs.extents.+put_both.Given as goal

abbrev pub decreases-put_both : goal.decreases-put_both
decreases-put_both l = length l.left.now
