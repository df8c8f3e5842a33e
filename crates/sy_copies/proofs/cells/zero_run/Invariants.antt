use Rattle.std.proofs.Common.{◌≡◌, ◌≤◌, max}
use Rattle.sy_needs.specs.Each.{each_from}
use Rattle.sy_copies.specs.Parts.{zero_in}
use Rattle.sy_copies.proofs.cells.zero_run.Given as goal

abbrev pub invariant-loop-i : goal.invariant-loop-i
invariant-loop-i l = record {
  bound : l.i ≤ max l.from l.i-end;
  zeros : l.cells ≡ each_from (zero_in l.from l.i) 0 l.initial.cells;
}
