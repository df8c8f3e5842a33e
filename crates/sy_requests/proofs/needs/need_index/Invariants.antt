use Rattle.std.proofs.Common.{◌≡◌, ◌+◌, drop}
use Rattle.sy_meaning.specs.Making.{need_index}
use Rattle.sy_requests.proofs.needs.need_index.Given as goal

abbrev pub invariant-loop-k : goal.invariant-loop-k
invariant-loop-k l = l.k + need_index l.need (drop l.k l.needs) ≡ need_index l.need l.needs
