use Rattle.std.proofs.Common.{length}
use Rattle.sy_requests.proofs.extents.+product.Given as goal

abbrev pub decreases-product : goal.decreases-product
decreases-product l = length l.extents.now
