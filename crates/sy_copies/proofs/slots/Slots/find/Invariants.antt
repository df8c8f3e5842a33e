use Rattle.std.proofs.Common.{◌≡◌, None, take}
use Rattle.sy_copies.specs.Slots.{slot_at}
use Rattle.sy_copies.proofs.slots.Slots.find.Given as goal

abbrev pub invariant-loop-k : goal.invariant-loop-k
invariant-loop-k l = slot_at (take l.k l.slot-items) l.place ≡ None
