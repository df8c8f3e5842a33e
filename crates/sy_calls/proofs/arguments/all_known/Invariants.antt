use Rattle.std.proofs.Common.{◌≡◌, drop}
use Rattle.std.specs.List.{list_all}
use Rattle.sy_rules.specs.Seen.{is_known}
use Rattle.sy_calls.proofs.arguments.all_known.Given as goal

abbrev pub invariant-loop-a : goal.invariant-loop-a
invariant-loop-a l = list_all is_known (drop l.a-index l.xs) ≡ list_all is_known l.xs
