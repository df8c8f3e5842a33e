use Rattle.std.proofs.Common.{inr, arith}
use Rattle.sy_foot.proofs.NumberLemmas.{slot-total}
use Rattle.sy_foot.proofs.runs.slot_runs.Goals as goal

pub returns-then-length-clause-too_many : goal.returns-then-length-clause-too_many
returns-then-length-clause-too_many c = λ e.
    let longest = slot-total c.args.lengths.now 0 c.loop-length.length-index (omega (arith, c.loop-length-test.true)) in
    inr (omega (arith, longest, c.if-length.true))
