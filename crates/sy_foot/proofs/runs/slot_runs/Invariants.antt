use Rattle.std.proofs.Common.{◌≡◌, ◌++◌, drop}
use Rattle.std.specs.Prelude.{vec_len}
use Rattle.sy_foot.specs.Runs.{local_runs}
use Rattle.sy_foot.proofs.runs.slot_runs.Given as goal

abbrev pub invariant-loop-length : goal.invariant-loop-length
invariant-loop-length l = record {
  items : l.runs.items ++ local_runs l.length-index (drop l.length-index l.lengths) ≡ local_runs 0 l.lengths;
  len : vec_len l.runs ≡ l.length-index;
}
