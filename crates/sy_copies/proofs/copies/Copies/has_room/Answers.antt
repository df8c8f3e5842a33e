use Rattle.std.proofs.Common.{◌<◌, ◌≤◌, length, sym, ap, ◌∙◌, arith}
use Rattle.sy_copies.specs.Current.{has_room, room_of}
use Rattle.sy_copies.proofs.CallLemmas.{see_past, see_read}
use Rattle.sy_copies.proofs.copies.Copies.has_room.Goals as goal

pub returns-then-number-len : goal.returns-then-number-len
unfolding has_room
returns-then-number-len c =
    let outside : length c.self.inside.buffers.items ≤ c.args.buffer = omega arith in
    see_past (λ o. room_of o c.args.place) c.self.inside.buffers.items c.args.self.now c.args.buffer c.self.view_is outside

pub returns-in-Some : goal.returns-in-Some
unfolding has_room
returns-in-Some c =
    let inside : c.args.buffer < length c.self.inside.buffers.items = omega arith in
    c.has.ensures ∙ ap (λ o. room_of o c.args.place) (sym c.in-Some.is) ∙ see_read (λ o. room_of o c.args.place) c.self.inside.buffers.items c.args.self.now c.args.buffer c.index.result.now c.self.view_is inside c.index.ensures

pub returns-in-None : goal.returns-in-None
unfolding has_room
returns-in-None c =
    let inside : c.args.buffer < length c.self.inside.buffers.items = omega arith in
    ap (λ o. room_of o c.args.place) (sym c.in-None.is) ∙ see_read (λ o. room_of o c.args.place) c.self.inside.buffers.items c.args.self.now c.args.buffer c.index.result.now c.self.view_is inside c.index.ensures
