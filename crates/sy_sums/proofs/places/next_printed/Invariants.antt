use Rattle.std.proofs.Common.{◌≡◌, drop}
use Rattle.std.specs.Prelude.{filter_map}
use Rattle.sy_sums.specs.Sums.{operand_of}
use Rattle.sy_sums.proofs.places.next_printed.Given as goal

abbrev pub invariant-loop-at : goal.invariant-loop-at
invariant-loop-at l = filter_map operand_of (drop l.at l.items) ≡ filter_map operand_of (drop l.done l.items)
