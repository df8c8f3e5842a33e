use Rattle.std.proofs.Common.{◌≡◌, ◌≤◌, ◌+◌, drop, length}
use Rattle.sy_rules.specs.Units.{function_items}
use Rattle.sy_units.proofs.functions.count_functions.Given as goal

abbrev pub invariant-loop-i : goal.invariant-loop-i
invariant-loop-i l = record {
  counted : l.count + length (function_items (drop l.i-index l.items)) ≡ length (function_items l.items);
  few : l.count ≤ l.i-index;
}
