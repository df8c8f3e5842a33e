use Rattle.std.proofs.Common.{◌<◌, length, arith}
use Rattle.std.proofs.lemmas.List.{take_more}
use Rattle.sy_index.proofs.SlotLemmas.{told_more}
use Rattle.sy_index.proofs.slot.Slots.tell_all.Goals as goal

pub loop-m-preserved : goal.loop-m-preserved
loop-m-preserved c =
    let within : c.loop-m.m-index < length c.args.ms.now = omega arith in
    rw (take_more c.args.ms.now c.loop-m.m-index 0 within) (rw told_more cc)
