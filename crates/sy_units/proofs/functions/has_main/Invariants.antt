use Rattle.std.proofs.Common.{◌≡◌, drop}
use Rattle.std.specs.List.{list_any}
use Rattle.sy_rules.specs.Units.{is_main, function_items}
use Rattle.sy_units.proofs.functions.has_main.Given as goal

abbrev pub invariant-loop-i : goal.invariant-loop-i
invariant-loop-i l = list_any is_main (function_items (drop l.i-index l.items)) ≡ list_any is_main (function_items l.items)
