use Rattle.std.proofs.Common.{◌<◌, ◌≤◌, length, sym, ap, ◌∙◌, arith}
use Rattle.sy_copies.specs.Current.{len_at, len_of}
use Rattle.sy_copies.proofs.CallLemmas.{see_past, see_read}
use Rattle.sy_copies.proofs.copies.Copies.len.Goals as goal

pub returns-then-number-len : goal.returns-then-number-len
unfolding len_at
returns-then-number-len c =
    let outside : length c.self.inside.buffers.items ≤ c.args.buffer = omega arith in
    see_past len_of c.self.inside.buffers.items c.args.self.now c.args.buffer c.self.view_is outside

pub returns-in-Some : goal.returns-in-Some
unfolding len_at
returns-in-Some c =
    let inside : c.args.buffer < length c.self.inside.buffers.items = omega arith in
    ap len_of (sym c.in-Some.is) ∙ see_read len_of c.self.inside.buffers.items c.args.self.now c.args.buffer c.index.result.now c.self.view_is inside c.index.ensures

pub returns-in-None : goal.returns-in-None
unfolding len_at
returns-in-None c =
    let inside : c.args.buffer < length c.self.inside.buffers.items = omega arith in
    ap len_of (sym c.in-None.is) ∙ see_read len_of c.self.inside.buffers.items c.args.self.now c.args.buffer c.index.result.now c.self.view_is inside c.index.ensures
