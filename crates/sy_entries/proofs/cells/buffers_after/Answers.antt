use Rattle.std.proofs.Common.{arith}
use Rattle.sy_onecopy.specs.Outcome.{buffer_after}
use Rattle.sy_entries.proofs.ListLemmas.{each_from-step}
use Rattle.sy_entries.proofs.cells.buffers_after.Goals as goal

pub loop-r-preserved : goal.loop-r-preserved
loop-r-preserved c =
    each_from-step (buffer_after c.args.needs.now c.args.log.now) 0 c.args.buffers.now c.loop-r.r c.loop-r.r c.index-buffers-r.result _ _ _ c.loop-r-test.true
    c.index-buffers-r.is (omega arith) c.in_ok-buffer_after.ensures c.loop-r.invariant c.in_ok-push.ensures.items
