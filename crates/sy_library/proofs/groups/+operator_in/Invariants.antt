use Rattle.std.proofs.Common.{length}
use Rattle.sy_library.proofs.groups.+operator_in.Given as goal

abbrev pub decreases-operator_in : goal.decreases-operator_in
decreases-operator_in l = length l.given.now
