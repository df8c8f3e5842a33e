use Rattle.std.proofs.Common.{◌≡◌, ◌++◌, map, take, drop}
use Rattle.sy_copies.specs.Slots.{slot_after}
use Rattle.sy_copies.proofs.slots.publish_all.Given as goal

abbrev pub invariant-loop-slot : goal.invariant-loop-slot
invariant-loop-slot l = l.slots ≡ map (slot_after l.place l.replaced l.needs l.log l.root) (take l.slot-index l.initial.slots) ++ drop l.slot-index l.initial.slots
