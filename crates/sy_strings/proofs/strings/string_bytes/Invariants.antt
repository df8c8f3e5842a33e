use Rattle.std.proofs.Common.{◌≡◌, ◌++◌, length}
use Rattle.sy_rules.specs.Literals.{string_bytes_of, unquoted}
use Rattle.sy_strings.proofs.strings.string_bytes.Given as goal

abbrev pub invariant-loop-rest : goal.invariant-loop-rest
invariant-loop-rest l = l.bytes ++ unquoted l.rest ≡ string_bytes_of l.text

abbrev pub decreases-loop-rest : goal.decreases-loop-rest
decreases-loop-rest l = length l.rest
