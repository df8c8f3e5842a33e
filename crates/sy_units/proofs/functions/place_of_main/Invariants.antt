use Rattle.std.proofs.Common.{◌≡◌, ◌≤◌, ◌+◌, drop}
use Rattle.sy_rules.specs.Units.{place_of_main, function_items}
use Rattle.sy_units.proofs.functions.place_of_main.Given as goal

abbrev pub invariant-loop-i : goal.invariant-loop-i
invariant-loop-i l = record {
  counted : l.place + place_of_main (function_items (drop l.i-index l.items)) ≡ place_of_main (function_items l.items);
  few : l.place ≤ l.i-index;
}
