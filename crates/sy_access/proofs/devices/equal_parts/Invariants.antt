-- the parts so far
use Rattle.std.proofs.Common.{◌≡◌, map}
use Rattle.std.specs.List.{range_with_len}
use Rattle.sy_access.specs.Devices.{part_at}
use Rattle.sy_access.proofs.devices.equal_parts.Given as goal

abbrev pub invariant-loop-k : goal.invariant-loop-k
invariant-loop-k l = l.made.items ≡ map (part_at l.d l.units) (range_with_len 0 l.k)
