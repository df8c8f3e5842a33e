use Rattle.std.proofs.Common.{◌≡◌, drop}
use Rattle.sy_sums.specs.Hosts.{ahead}
use Rattle.sy_sums.proofs.places.next_operand.Given as goal

abbrev pub invariant-loop-k : goal.invariant-loop-k
invariant-loop-k l = ahead l.done (drop l.k l.statements) ≡ ahead l.fn.done (drop l.at l.statements)
