use Rattle.std.proofs.Common.{◌≡◌, ◌==◌, length}
use Rattle.std.specs.List.{list_any}
use Rattle.sy_access.specs.declared.access.Need.{Need}
use Rattle.sy_requests.proofs.groups.has_need_on.Given as goal

abbrev pub invariant-loop-rest : goal.invariant-loop-rest
invariant-loop-rest l = list_any (λ (need : Need). need.buffer == l.root) l.rest ≡ list_any (λ (need : Need). need.buffer == l.root) l.fn.group.needs

abbrev pub decreases-loop-rest : goal.decreases-loop-rest
decreases-loop-rest l = length l.rest
