use Rattle.std.proofs.Common.{arith, pos}
use Rattle.std.proofs.lemmas.Int.{to_z-of_z}
use Rattle.sy_needs.specs.Elements.{at_start}
use Rattle.sy_entries.proofs.ListLemmas.{each_from-take}
use Rattle.sy_entries.proofs.cells.input.Goals as goal

pub loop-i-preserved : goal.loop-i-preserved
loop-i-preserved c =
    let e = each_from-take (at_start c.args.needs.now c.args.n.now.buffer) c.args.n.now.from c.run_of-run.result.now c.loop-i.i (pos 0) c.loop-i-test.true in
    let b = c.at_start.ensures in
    let w = c.in_ok-push.ensures.items in grind (arith, to_z-of_z)
