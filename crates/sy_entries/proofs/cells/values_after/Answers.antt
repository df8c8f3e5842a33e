use Rattle.std.proofs.Common.{◌≡◌, ◌+◌, arith, pos}
use Rattle.std.proofs.lemmas.Int.{to_z-of_z}
use Rattle.sy_needs.specs.Elements.{cell_after}
use Rattle.sy_entries.proofs.ListLemmas.{each_from-take}
use Rattle.sy_entries.proofs.cells.values_after.Goals as goal

pub loop-i-preserved : goal.loop-i-preserved
loop-i-preserved c =
    let e = each_from-take (cell_after c.args.needs.now c.args.log.now c.args.r) 0 c.args.values.now c.loop-i.i (pos 0) c.loop-i-test.true in
    let z : 0 + c.loop-i.i ≡ c.loop-i.i = omega arith in
    let b = c.cell_after.ensures in
    let w = c.in_ok-push.ensures.items in grind (arith, to_z-of_z)
