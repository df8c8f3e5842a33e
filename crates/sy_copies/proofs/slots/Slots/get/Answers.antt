use Rattle.std.proofs.Common.{◌≡◌, List, Some, ◌∙◌, subst}
use Rattle.sy_copies.specs.declared.slots.Slot.{Slot}
use Rattle.sy_copies.specs.Slots.{slot_at}
use Rattle.sy_copies.proofs.SlotLemmas.{no_slot_more, slot_read}
use Rattle.sy_copies.proofs.slots.Slots.get.Goals as goal

pub returns-then-slot-place : goal.returns-then-slot-place
returns-then-slot-place c =
    let items : List Slot = c.as_slice-slot-items.result.now in
    let all : items ≡ c.args.self.now = c.as_slice-slot-items.ensures.value ∙ c.self.view_is in
    subst (λ (l : List Slot). slot_at l c.args.place ≡ Some c.slot-item.result) all
    (slot_read items c.loop-slot.slot-index c.args.place c.slot-item.result c.loop-slot-test.true c.loop-slot.invariant c.slot-item.is c.if-slot-place.true)

pub loop-slot-preserved : goal.loop-slot-preserved
loop-slot-preserved c = no_slot_more c.as_slice-slot-items.result.now c.loop-slot.slot-index c.args.place c.slot-item.result c.loop-slot-test.true c.loop-slot.invariant c.slot-item.is c.if-slot-place.false
