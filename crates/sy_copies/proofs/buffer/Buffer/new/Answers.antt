use Rattle.std.proofs.Common.{◌∙◌, refl}
use Rattle.sy_copies.specs.Places.{first, installed}
use Rattle.sy_copies.proofs.buffer.Buffer.new.Goals as goal

pub returns-in_ok-zeros-in-None : goal.returns-in_ok-zeros-in-None
unfolding first
returns-in_ok-zeros-in-None c =
    rw (c.in-None.is, c.in_ok-zeros-in-None.ensures, c.new-slots.ensures) refl

pub returns-in-Ok : goal.returns-in-Ok
unfolding first installed
returns-in-Ok c = c.in-Ok.ensures.ok ∙ (rw (c.in-Some.is, c.new-slots.ensures) refl)
