use Rattle.std.proofs.Common.{◌≡◌, drop}
use Rattle.std.specs.List.{list_any}
use Rattle.sy_rules.specs.Lambdas.{is_copy_default}
use Rattle.sy_captures.proofs.lists.has_copy_default.Given as goal

abbrev pub invariant-loop-c : goal.invariant-loop-c
invariant-loop-c l = list_any is_copy_default (drop l.c-index l.cs) ≡ list_any is_copy_default l.cs
