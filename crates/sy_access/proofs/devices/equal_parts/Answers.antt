use Rattle.std.proofs.Common.{arith}
use Rattle.sy_access.proofs.Equal.{one_more, all_parts, within_all}
use Rattle.sy_access.proofs.devices.equal_parts.Goals as goal

pub loop-k-preserved : goal.loop-k-preserved
loop-k-preserved c = one_more c.args.d.now c.args.units c.loop-k.k _ _ c.loop-k.invariant c.in_ok-push.ensures.items

pub returns-clause-parts : goal.returns-clause-parts
returns-clause-parts c = all_parts c.args.d.now c.args.units c.loop-k.k _ c.loop-k.invariant (omega arith)

pub returns-clause-within : goal.returns-clause-within
returns-clause-within c = within_all c.args.d.now c.args.units _ (all_parts c.args.d.now c.args.units c.loop-k.k _ c.loop-k.invariant (omega arith))
