use Rattle.std.proofs.Common.{◌<◌, length, get_or, arith, ap, ◌∙◌, List, Option}
use Rattle.std.proofs.lemmas.List.{take_more}
use Rattle.sy_index.specs.declared.slot.Slot.{Slot}
use Rattle.sy_index.specs.Slots.{changed, with_successor}
use Rattle.sy_index.proofs.SlotLemmas.{linked_more}
use Rattle.sy_index.proofs.slot.Slots.link_all.Goals as goal

pub loop-i-preserved : goal.loop-i-preserved
loop-i-preserved c =
    let within : c.loop-i.i < length c.args.ms.now = omega arith in
    rw (take_more c.args.ms.now c.loop-i.i 0 within) (rw linked_more (c.in-Ok.ensures.ok ∙ ap (λ (v : List (Option Slot)). changed (with_successor c.args.n) v (get_or c.args.ms.now c.loop-i.i 0)) c.loop-i.invariant))
