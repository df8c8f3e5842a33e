use Rattle.std.proofs.Common.{◌≡◌, ◌+◌, drop}
use Rattle.sy_foot.specs.Runs.{number_in, total}
use Rattle.sy_foot.proofs.runs.number_of.Given as goal

abbrev pub invariant-loop-run : goal.invariant-loop-run
invariant-loop-run l = record {
  number : number_in l.first (drop l.run-index l.runs) l.list l.element ≡ number_in l.base l.runs l.list l.element;
  sum : l.first + total (drop l.run-index l.runs) ≡ l.base + total l.runs;
}
