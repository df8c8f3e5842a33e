use Rattle.std.proofs.Common.{◌≡◌, drop}
use Rattle.std.specs.List.{list_any}
use Rattle.sy_rules.specs.ExprRules.{is_misused}
use Rattle.sy_constructs.proofs.names.is_misused_in_any.Given as goal

abbrev pub invariant-loop-t : goal.invariant-loop-t
invariant-loop-t l = list_any (is_misused l.v) (drop l.t-index l.threads) ≡ list_any (is_misused l.v) l.threads
