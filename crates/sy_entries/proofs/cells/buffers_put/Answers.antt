use Rattle.std.proofs.Common.{arith}
use Rattle.sy_onecopy.specs.Step.{buffer_put}
use Rattle.sy_entries.proofs.ListLemmas.{each_from-step}
use Rattle.sy_entries.proofs.cells.buffers_put.Goals as goal

pub loop-r-preserved : goal.loop-r-preserved
loop-r-preserved c =
    each_from-step (buffer_put c.args.n.now c.args.given.now) 0 c.args.buffers.now c.loop-r.r c.loop-r.r c.index-buffers-r.result _ _ _ c.loop-r-test.true
    c.index-buffers-r.is (omega arith) c.in_ok-buffer_put.ensures c.loop-r.invariant c.in_ok-push.ensures.items
