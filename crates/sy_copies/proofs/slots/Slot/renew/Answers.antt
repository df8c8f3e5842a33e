use Rattle.std.proofs.Common.{◌≡◌, true, List, ℤ, ap, ◌∙◌}
use Rattle.std.proofs.Common.{arith}
use Rattle.std.proofs.lemmas.Grind.{common_steps}
use Rattle.std.specs.Prelude.{not, ◌||◌}
use Rattle.sy_copies.specs.declared.slots.Slot.{Slot}
use Rattle.sy_copies.specs.Slots.{renewed_slot}
use Rattle.sy_copies.proofs.slots.Slot.renew.Goals as goal
use Rattle.sy_copies.proofs.slots.Slot.renew.Goals.{then-replaced, else-replaced}

pub returns : goal.returns
unfolding renewed_slot
returns c =
    let from : c.if-replaced.from_zeros ≡ (c.args.replaced || not c.args.self.now.current) = elim c.if-replaced.branch [ then-replaced w ↦ grind arith | else-replaced w ↦ grind arith ] in
    let all : c.of.result ≡ c.renew.new.cells = grind (arith, common_steps) in
    let was : c.as_mut_slice.result.now ≡ c.args.self.now.values = grind (arith, common_steps) in
    let slot : List ℤ → Slot = λ v. record { place = c.args.self.now.place; current = true; values = v } in
    ap slot (all ∙ (rw (from, was) at c.renew.ensures))
