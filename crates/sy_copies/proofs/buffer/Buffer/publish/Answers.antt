use Rattle.std.proofs.Common.{List, None, ap}
use Rattle.sy_copies.specs.declared.slots.Slot.{Slot}
use Rattle.sy_copies.specs.declared.buffer.Buffer.{Buffer}
use Rattle.sy_copies.specs.Places.{published}
use Rattle.sy_copies.proofs.buffer.Buffer.publish.Goals as goal

pub returns : goal.returns
unfolding published
returns c =
    let buffer : List Slot → Buffer = λ l. record { len = c.args.self.now.len; zeros = None; slots = l } in
    ap buffer (rw c.replaces-replaced.ensures at c.publish.ensures)
