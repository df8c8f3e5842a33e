use Rattle.std.proofs.Common.{◌≡◌, ◌++◌, drop, map}
use Rattle.sy_rules.specs.Units.{passed_to}
use Rattle.sy_units.proofs.functions.all_passed.Given as goal

abbrev pub invariant-loop-p : goal.invariant-loop-p
invariant-loop-p l = l.all.items ++ map passed_to (drop l.p-index l.ps) ≡ map passed_to l.ps
