use Rattle.std.proofs.Common.{◌≡◌, ◌+◌, drop}
use Rattle.sy_copies.proofs.RunLemmas.{run_from}
use Rattle.sy_copies.proofs.cells.put_run.Given as goal

abbrev pub invariant-loop-k : goal.invariant-loop-k
invariant-loop-k l = run_from l.needs l.root l.of (l.from + l.k) (drop l.k l.values) l.cells ≡ run_from l.needs l.root l.of l.from l.values l.initial.cells
