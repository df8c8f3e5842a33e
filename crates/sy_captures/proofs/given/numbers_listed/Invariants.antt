use Rattle.std.proofs.Common.{◌≡◌, ◌||◌, ℕ, drop, map, nat_eq}
use Rattle.std.specs.List.{list_any}
use Rattle.sy_rules.specs.Lambdas.{number_listed}
use Rattle.sy_captures.proofs.given.numbers_listed.Given as goal

abbrev pub invariant-loop-c : goal.invariant-loop-c
invariant-loop-c l = (n : ℕ) → (list_any (nat_eq n) l.numbers.keys || list_any (nat_eq n) (map number_listed (drop l.c-index l.listed))) ≡ list_any (nat_eq n) (map number_listed l.listed)
