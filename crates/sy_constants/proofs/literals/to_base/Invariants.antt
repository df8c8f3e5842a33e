use Rattle.std.proofs.Common.{◌≡◌, ◌+◌, ◌*◌, drop, fold}
use Rattle.sy_rules.specs.Literals.{digit, to_base, without_suffix}
use Rattle.sy_constants.proofs.literals.to_base.Given as goal

abbrev pub invariant-loop-b : goal.invariant-loop-b
invariant-loop-b l = fold (λ n b. n * l.base + digit b) l.n (without_suffix (drop l.b-index l.bytes)) ≡ to_base l.base l.bytes
