use Rattle.std.proofs.Common.{◌≡◌, ◌+◌, length}
use Rattle.sy_index.specs.Slots.{behind}
use Rattle.sy_index.proofs.slot.drop_done.Given as goal

abbrev pub invariant-loop-slots : goal.invariant-loop-slots
invariant-loop-slots l = record {
  same : behind l.dropped l.slots.items ≡ l.initial.slots.items;
  sum : l.dropped + length l.slots.items ≡ length l.initial.slots.items;
}

abbrev pub decreases-loop-slots : goal.decreases-loop-slots
decreases-loop-slots l = length l.slots.items
