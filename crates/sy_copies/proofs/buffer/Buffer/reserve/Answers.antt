use Rattle.std.proofs.Common.{List, ap, sym, ◌∙◌, refl}
use Rattle.sy_copies.specs.declared.slots.Slot.{Slot}
use Rattle.sy_copies.specs.declared.buffer.Buffer.{Buffer}
use Rattle.sy_copies.specs.Places.{reserved}
use Rattle.sy_copies.proofs.buffer.Buffer.reserve.Goals as goal
use Rattle.sy_copies.proofs.buffer.Buffer.reserve.Goals.{in-Ok, in-Err}

pub returns-then-has-clause-ok : goal.returns-then-has-clause-ok
unfolding reserved
returns-then-has-clause-ok c = rw (sym c.has.ensures ∙ c.if-has.true) refl

pub returns-clause-ok : goal.returns-clause-ok
unfolding reserved
returns-clause-ok c =
    let buffer : List Slot → Buffer = λ l. record c.args.self.now { slots = l } in
    elim c.match-put.branch [ in-Ok w ↦ (rw (w.result-is, sym c.has.ensures ∙ c.if-has.false, ← c.in_ok-zeros.ensures) (ap buffer w.in-Ok.ensures.ok)) | in-Err w ↦ (rw w.result-is tt) ]
