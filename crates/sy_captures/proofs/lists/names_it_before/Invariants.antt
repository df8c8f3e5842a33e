use Rattle.std.proofs.Common.{◌≡◌, drop}
use Rattle.std.specs.List.{list_any}
use Rattle.sy_rules.specs.Lambdas.{names_it}
use Rattle.sy_captures.proofs.lists.names_it_before.Given as goal

abbrev pub invariant-loop-c : goal.invariant-loop-c
invariant-loop-c l = list_any (names_it l.x) (drop l.c-index l.cs) ≡ list_any (names_it l.x) l.cs
