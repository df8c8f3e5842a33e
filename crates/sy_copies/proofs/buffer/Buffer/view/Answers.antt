use Rattle.std.proofs.Common.{◌≡◌, refl, sym, ◌∙◌}
use Rattle.sy_copies.specs.Places.{copy_in}
use Rattle.sy_copies.proofs.SlotLemmas.{shown}
use Rattle.sy_copies.proofs.buffer.Buffer.view.Goals as goal

pub returns-in-Some : goal.returns-in-Some
unfolding copy_in
returns-in-Some c = rw (c.in-Some.ensures, c.if-slot.true) refl

pub returns-in-Some-2 : goal.returns-in-Some-2
unfolding copy_in
returns-in-Some-2 c =
    let zeros : copy_in c.args.self.now c.args.place ≡ c.args.self.now.zeros = rw (c.in-Some.ensures, c.if-slot.false) refl in
    shown c.as_ref.result (copy_in c.args.self.now c.args.place) (zeros ∙ sym c.as_ref.ensures.value)

pub returns-in-None : goal.returns-in-None
unfolding copy_in
returns-in-None c =
    let zeros : copy_in c.args.self.now c.args.place ≡ c.args.self.now.zeros = rw c.in-None.ensures refl in
    shown c.as_ref-in-None.result (copy_in c.args.self.now c.args.place) (zeros ∙ sym c.as_ref-in-None.ensures.value)
