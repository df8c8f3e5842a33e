use Rattle.std.proofs.Common.{arith}
use Rattle.sy_copies.proofs.RenewalLemmas.{zero_none, zero_more, zero_all}
use Rattle.sy_copies.proofs.cells.zero_run.Goals as goal

pub loop-i-init : goal.loop-i-init
loop-i-init c = record { bound = omega arith; zeros = zero_none c.args.from c.args.from c.args.cells.now (omega arith) }

pub loop-i-preserved : goal.loop-i-preserved
loop-i-preserved c = record {
  bound = omega arith;
  zeros = zero_more c.args.from c.loop-i.i c.loop-i.cells c.args.cells.now (omega arith) c.loop-i.invariant.zeros;
}

pub returns : goal.returns
returns c = zero_all c.args.from c.args.to c.loop-i.i c.loop-i.cells c.args.cells.now (omega arith) (omega arith) (omega arith) c.loop-i.invariant.zeros
