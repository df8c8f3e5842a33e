use Rattle.std.proofs.Common.{length}
use Rattle.sy_making.proofs.accessors.+sum.Given as goal

abbrev pub decreases-sum : goal.decreases-sum
decreases-sum l = length l.sizes.now
