use Rattle.std.proofs.Common.{◌≡◌, drop, IsTrue}
use Rattle.sy_access.specs.Logs.{differ}
use Rattle.sy_needs.specs.Each.{each_from}
use Rattle.sy_copies.specs.Parts.{put_all_at}
use Rattle.sy_copies.proofs.cells.put_log.Given as goal

abbrev pub invariant-loop-cell : goal.invariant-loop-cell
invariant-loop-cell l = record {
  rest : each_from (put_all_at l.needs (drop l.cell-index l.cell-items) l.root) 0 l.cells ≡ each_from (put_all_at l.needs l.cell-items l.root) 0 l.initial.cells;
  once : IsTrue (differ (drop l.cell-index l.cell-items));
}
