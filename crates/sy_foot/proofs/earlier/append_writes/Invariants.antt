use Rattle.std.proofs.Common.{◌≡◌, ◌++◌, ◌+◌, ◌-◌, ◌≤◌, drop, length}
use Rattle.std.specs.Prelude.{vec_capacity, vec_len}
use Rattle.sy_foot.specs.Footprints.{kept, written_by}
use Rattle.sy_foot.specs.Writes.{shared_writes}
use Rattle.sy_foot.proofs.earlier.append_writes.Given as goal

abbrev pub invariant-loop-cell : goal.invariant-loop-cell
invariant-loop-cell l = record {
  items : l.log.items ++ shared_writes l.shared (kept l.group) (drop l.cell-index l.cell-items) ≡ l.fn.log.items ++ shared_writes l.shared (kept l.group) (written_by l.group);
  room : vec_len l.log + (length l.cell-items - l.cell-index) ≤ vec_capacity l.log;
}
