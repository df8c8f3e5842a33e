use Rattle.std.proofs.Common.{length}
use Rattle.sy_making.proofs.arguments.+has_tag.Given as goal

abbrev pub decreases-has_tag : goal.decreases-has_tag
decreases-has_tag l = length l.given.now
