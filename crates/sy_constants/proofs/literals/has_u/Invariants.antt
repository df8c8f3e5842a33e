use Rattle.std.proofs.Common.{◌≡◌, drop}
use Rattle.std.specs.List.{list_any}
use Rattle.sy_rules.specs.Literals.{is_u}
use Rattle.sy_constants.proofs.literals.has_u.Given as goal

abbrev pub invariant-loop-b : goal.invariant-loop-b
invariant-loop-b l = list_any is_u (drop l.b-index l.bytes) ≡ list_any is_u l.bytes
