use Rattle.std.proofs.Common.{◌≡◌, ◌∙◌, ap, sym, subst, ◌∷◌, ◌++◌, Option, Some, None, length, get_or, arith, refl}
use Rattle.std.specs.Prelude.{option_to_list}
use Rattle.sy_index.specs.declared.slot.Slot.{Slot}
use Rattle.sy_index.proofs.DoneLemmas.{behind-zero, dropped}
use Rattle.sy_index.proofs.slot.drop_done.Goals as goal

pub loop-slots-init : goal.loop-slots-init
loop-slots-init c = record { same = behind-zero c.args.slots.now.items; sum = omega arith }

pub loop-slots-preserved : goal.loop-slots-preserved
loop-slots-preserved c =
    let none : None ≡ get_or c.loop-slots.slots.items 0 None = subst (λ (v : Option Slot). v ≡ get_or c.loop-slots.slots.items 0 v) c.in-Some-None.field-0-is c.in-Some-None.ensures.lookup in
    let one : c.pop_front.result ≡ Some None = c.pop_front.ensures.value None (c.in-Some-None.ensures.variant.0 refl) ∙ ap (λ (v : Option Slot). Some v) (sym none) in
    let first : c.loop-slots.slots.items ≡ None ∷ c.pop_front.new.self.items = c.pop_front.ensures.items ∙ ap (λ (v : Option (Option Slot)). option_to_list v ++ c.pop_front.new.self.items) one in
    record {
      same = dropped c.loop-slots.dropped c.loop-slots.slots.items c.pop_front.new.self.items c.args.slots.now.items c.loop-slots.invariant.same first;
      sum = let long = ap length first in let was = c.loop-slots.invariant.sum in omega arith;
    }
