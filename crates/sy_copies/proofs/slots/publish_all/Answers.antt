use Rattle.std.proofs.Common.{◌≡◌, ◌+◌, ◌++◌, ℕ, false, List, map, set, take, drop, ap, sym, ◌∙◌}
use Rattle.std.proofs.lemmas.List.Edits.{map_over_more}
use Rattle.sy_copies.specs.declared.slots.Slot.{Slot}
use Rattle.sy_copies.specs.Slots.{slot_after, renewed_slot}
use Rattle.sy_copies.proofs.SlotLemmas.{after_here, after_elsewhere}
use Rattle.sy_copies.proofs.slots.publish_all.Goals as goal
use Rattle.sy_copies.proofs.slots.publish_all.Goals.{then-slot-place, else-slot-place}

pub loop-slot-preserved : goal.loop-slot-preserved
loop-slot-preserved c =
    let x : Slot = c.slot-item.result in
    let i : ℕ = c.loop-slot.slot-index in
    let slots : List Slot = c.loop-slot.slots in
    let f : Slot → Slot = slot_after c.args.place c.args.replaced c.args.needs.now c.args.log.now c.args.root in
    let step : set slots i (f x) ≡ map f (take (i + 1) c.args.slots.now) ++ drop (i + 1) c.args.slots.now = map_over_more f c.args.slots.now slots i x c.loop-slot-test.true c.loop-slot.invariant c.slot-item.is in
    elim c.if-slot-place.branch [
      | then-slot-place w ↦
          let here : x.place ≡ c.args.place = ap (λ (s : Slot). s.place) c.slot-item.is ∙ w.if-slot-place.true in
          w.slots-is ∙ ap (set slots i) (w.renew.ensures ∙ ap (renewed_slot c.args.replaced c.args.needs.now c.args.log.now c.args.root) (sym c.slot-item.is)
          ∙ after_here c.args.place c.args.replaced c.args.needs.now c.args.log.now c.args.root x here) ∙ step
      | else-slot-place w ↦
          let there : x.place ≡ c.args.place → ⊥ = λ e. w.if-slot-place.false (sym (ap (λ (s : Slot). s.place) c.slot-item.is) ∙ e) in
          let stale : Slot → Slot = λ s. record s { current = false } in
          w.slots-is ∙ ap (λ s. set slots i (stale s)) (sym c.slot-item.is) ∙ ap (set slots i) (after_elsewhere c.args.place c.args.replaced c.args.needs.now c.args.log.now c.args.root x there) ∙ step
    ]
