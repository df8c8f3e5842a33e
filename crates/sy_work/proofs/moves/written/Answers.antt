use Rattle.std.proofs.Common.{arith, pos}
use Rattle.std.proofs.lemmas.Int.{to_z-of_z}
use Rattle.sy_work.proofs.WriteLemmas.{writes_from-more, differ-same}
use Rattle.sy_work.proofs.moves.written.Goals as goal

pub loop-k-preserved : goal.loop-k-preserved
loop-k-preserved c =
    let longer = writes_from-more c.args.root c.args.from c.loop-k.k c.args.numbers.now (pos 0) c.loop-k.items.items c.loop-k-test.true c.loop-k.invariant in
    let pushed = c.in_ok-push.ensures.items in grind (arith, to_z-of_z)

pub of-requires : goal.of-requires
of-requires c = differ-same c.args.root c.args.from _ _ c.loop-k.invariant
