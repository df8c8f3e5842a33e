use Rattle.std.proofs.Common.{◌≡◌, ◌++◌, length}
use Rattle.sy_meaning.specs.Making.{with_need}
use Rattle.sy_requests.proofs.needs.with_need.Given as goal

abbrev pub invariant-loop-rest : goal.invariant-loop-rest
invariant-loop-rest l = l.made.items ++ with_need l.need l.rest ≡ with_need l.need l.fn.needs

abbrev pub decreases-loop-rest : goal.decreases-loop-rest
decreases-loop-rest l = length l.rest
