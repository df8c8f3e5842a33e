use Rattle.std.proofs.Common.{◌≡◌, ◌++◌, drop}
use Rattle.sy_foot.specs.Runs.{inserted}
use Rattle.sy_foot.proofs.runs.insert.Given as goal

abbrev pub invariant-loop-other : goal.invariant-loop-other
invariant-loop-other l = l.out.items ++ inserted l.grown (drop l.other-index l.runs) ≡ inserted l.fn.run l.runs
