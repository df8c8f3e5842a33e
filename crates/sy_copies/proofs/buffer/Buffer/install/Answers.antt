use Rattle.std.proofs.Common.{List, ap}
use Rattle.sy_copies.specs.declared.slots.Slot.{Slot}
use Rattle.sy_copies.specs.declared.buffer.Buffer.{Buffer}
use Rattle.sy_copies.specs.Places.{installed}
use Rattle.sy_copies.proofs.buffer.Buffer.install.Goals as goal

pub returns-in-Ok-clause-ok : goal.returns-in-Ok-clause-ok
unfolding installed
returns-in-Ok-clause-ok c =
    let buffer : List Slot → Buffer = λ l. record c.args.self.now { slots = l } in
    ap buffer c.in-Ok.ensures.ok
