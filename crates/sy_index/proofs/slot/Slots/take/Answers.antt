use Rattle.std.proofs.Common.{◌≡◌, ◌∙◌, ◌+◌, ◌-◌, ap, sym, length, set, List, Option, None, arith, length-set}
use Rattle.sy_index.specs.declared.slot.Slot.{Slot}
use Rattle.sy_index.specs.Slots.{behind}
use Rattle.sy_index.proofs.DoneLemmas.{length-behind, set-behind, behind-behind}
use Rattle.sy_index.proofs.slot.Slots.take.Goals as goal

pub invariant_of-self : goal.invariant_of-self
invariant_of-self c =
    let left = length-behind c.drop_done.result c.drop_done.new.slots.items in
    let all : length (behind c.drop_done.result c.drop_done.new.slots.items) ≡ length c.take_at-taken.new.slots.items = ap length c.drop_done.ensures in
    let same : length c.take_at-taken.new.slots.items ≡ length c.self.inside.slots.items = ap length c.take_at-taken.ensures.left ∙ length-set c.self.inside.slots.items _ None in
    let was = c.self.invariant in
    omega arith

pub returns-clause-left : goal.returns-clause-left
returns-clause-left c =
    let place : c.args.n ≡ c.self.inside.gone + (c.args.n - c.self.inside.gone) = omega (arith, c.if-n-self.false) in
    behind-behind c.self.inside.gone c.drop_done.result c.drop_done.new.slots.items
    ∙ ap (behind c.self.inside.gone) (c.drop_done.ensures ∙ c.take_at-taken.ensures.left)
    ∙ sym (set-behind c.self.inside.gone c.self.inside.slots.items (c.args.n - c.self.inside.gone) c.args.n place)
    ∙ ap (λ (v : List (Option Slot)). set v c.args.n None) c.self.view_is
