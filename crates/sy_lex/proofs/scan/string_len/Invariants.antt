use Rattle.std.proofs.Common.{◌≡◌, ◌+◌, length}
use Rattle.sy_lex.specs.Front.{string_from}
use Rattle.sy_lex.proofs.scan.string_len.Given as goal

abbrev pub invariant-loop-rest : goal.invariant-loop-rest
invariant-loop-rest l = record { same : string_from 1 l.text ≡ string_from l.len l.rest; count : l.len + length l.rest ≡ length l.text + 1 }

abbrev pub decreases-loop-rest : goal.decreases-loop-rest
decreases-loop-rest l = length l.rest
