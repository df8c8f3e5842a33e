use Rattle.std.proofs.Common.{◌<◌, ◌≤◌, length, sym, ap, ◌∙◌, arith}
use Rattle.sy_copies.specs.Current.{copy_at, copy_of}
use Rattle.sy_copies.proofs.CallLemmas.{see_past, see_read}
use Rattle.sy_copies.proofs.SlotLemmas.{same_shown}
use Rattle.sy_copies.proofs.copies.Copies.view.Goals as goal

pub returns-then-number-len : goal.returns-then-number-len
unfolding copy_at
returns-then-number-len c =
    let outside : length c.self.inside.buffers.items ≤ c.args.buffer = omega arith in
    sym (see_past (λ o. copy_of o c.args.place) c.self.inside.buffers.items c.args.self.now c.args.buffer c.self.view_is outside)

pub returns-in-Some : goal.returns-in-Some
unfolding copy_at
returns-in-Some c =
    let inside : c.args.buffer < length c.self.inside.buffers.items = omega arith in
    same_shown c.view.result c.view.ensures
    (ap (λ o. copy_of o c.args.place) (sym c.in-Some.is) ∙ see_read (λ o. copy_of o c.args.place) c.self.inside.buffers.items c.args.self.now c.args.buffer c.index.result.now c.self.view_is inside c.index.ensures)

pub returns-in-None : goal.returns-in-None
unfolding copy_at
returns-in-None c =
    let inside : c.args.buffer < length c.self.inside.buffers.items = omega arith in
    sym (ap (λ o. copy_of o c.args.place) (sym c.in-None.is) ∙ see_read (λ o. copy_of o c.args.place) c.self.inside.buffers.items c.args.self.now c.args.buffer c.index.result.now c.self.view_is inside c.index.ensures)
