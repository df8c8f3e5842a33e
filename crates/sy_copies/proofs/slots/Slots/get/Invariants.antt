use Rattle.std.proofs.Common.{◌≡◌, None, take}
use Rattle.sy_copies.specs.Slots.{slot_at}
use Rattle.sy_copies.proofs.slots.Slots.get.Given as goal

abbrev pub invariant-loop-slot : goal.invariant-loop-slot
invariant-loop-slot l = slot_at (take l.slot-index l.slot-items) l.place ≡ None
