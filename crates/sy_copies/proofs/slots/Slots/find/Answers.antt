use Rattle.std.proofs.Common.{◌≡◌, List, ◌∙◌, subst}
use Rattle.sy_copies.specs.declared.slots.Slot.{Slot}
use Rattle.sy_copies.specs.Slots.{IsSlotOf}
use Rattle.sy_copies.proofs.SlotLemmas.{no_slot_more, slot_written}
use Rattle.sy_copies.proofs.slots.Slots.find.Goals as goal

pub returns-then-slot-place : goal.returns-then-slot-place
returns-then-slot-place c =
    let items : List Slot = c.as_slice-slot-items.result.now in
    let all : items ≡ c.args.self.now = c.as_slice-slot-items.ensures.value ∙ c.self.view_is in
    subst (λ (l : List Slot). IsSlotOf l c.args.place c.loop-k.k) all
    (c.loop-k-test.true, slot_written items c.loop-k.k c.args.place c.slot-item.result c.loop-k-test.true c.loop-k.invariant c.slot-item.is c.if-slot-place.true)

pub loop-k-preserved : goal.loop-k-preserved
loop-k-preserved c = no_slot_more c.as_slice-slot-items.result.now c.loop-k.k c.args.place c.slot-item.result c.loop-k-test.true c.loop-k.invariant c.slot-item.is c.if-slot-place.false
