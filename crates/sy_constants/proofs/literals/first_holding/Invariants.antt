use Rattle.std.proofs.Common.{◌≡◌, drop, pos}
use Rattle.std.specs.Prelude.{find}
use Rattle.sy_num.specs.Kinds.{is_in_range}
use Rattle.sy_constants.proofs.literals.first_holding.Given as goal

abbrev pub invariant-loop-kind : goal.invariant-loop-kind
invariant-loop-kind l = find (λ k. is_in_range k (pos l.n)) (drop l.kind-index l.kinds) ≡ find (λ k. is_in_range k (pos l.n)) l.kinds
