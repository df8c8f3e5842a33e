use Rattle.std.proofs.Common.{◌≡◌, length}
use Rattle.sy_meaning.specs.Ends.{all_joined}
use Rattle.sy_ends.proofs.objects.all_joined.Given as goal

-- whether all are joined is whether the rest are
abbrev pub invariant-loop-rest : goal.invariant-loop-rest
invariant-loop-rest l = all_joined l.rest l.world ≡ all_joined l.threads l.world

abbrev pub decreases-loop-rest : goal.decreases-loop-rest
decreases-loop-rest l = length l.rest
