use Rattle.std.proofs.Common.{ap, ◌∙◌, List, Option, length, arith}
use Rattle.std.specs.Prelude.{reverse}
use Rattle.sy_index.specs.declared.slot.Slot.{Slot}
use Rattle.sy_index.specs.Slots.{unlinked}
use Rattle.sy_index.proofs.SlotLemmas.{unlinked-linked}
use Rattle.sy_index.proofs.EdgeLemmas.{length-linked}
use Rattle.sy_index.proofs.slot.Slots.append.Goals as goal

pub returns-in-Err-clause-err : goal.returns-in-Err-clause-err
returns-in-Err-clause-err c =
    c.unlink_all.ensures
    ∙ ap (λ (v : List (Option Slot)). unlinked v (reverse c.args.ms.now)) (c.in-Err.ensures.err ∙ c.in-Ok.ensures.ok)
    ∙ unlinked-linked c.args.self.now c.len-number.result c.args.ms.now

pub push-requires : goal.push-requires
push-requires c = let e = ap length c.in-Ok.ensures.ok in omega (arith, length-linked c.args.self.now c.len-number.result c.args.ms.now)
