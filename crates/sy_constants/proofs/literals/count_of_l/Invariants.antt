use Rattle.std.proofs.Common.{◌≡◌, ◌+◌, ◌≤◌, drop, length}
use Rattle.std.specs.Prelude.{filter}
use Rattle.sy_rules.specs.Literals.{is_l}
use Rattle.sy_constants.proofs.literals.count_of_l.Given as goal

abbrev pub invariant-loop-b : goal.invariant-loop-b
invariant-loop-b l = record {
  counted : l.count + length (filter is_l (drop l.b-index l.bytes)) ≡ length (filter is_l l.bytes);
  few : l.count ≤ l.b-index;
}
