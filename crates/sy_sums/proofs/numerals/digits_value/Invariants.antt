use Rattle.std.proofs.Common.{◌≡◌, ◌<◌, take, Some}
use Rattle.std.specs.Prelude.{fold, IfSome}
use Rattle.sy_sums.specs.Numerals.{push_digit}
use Rattle.sy_sums.proofs.numerals.digits_value.Given as goal

abbrev pub invariant-loop-b : goal.invariant-loop-b
invariant-loop-b l = record { value : l.value ≡ fold push_digit (Some 0) (take l.b-index l.text); small : IfSome l.value (λ n. n < 1000000000000000000) }
