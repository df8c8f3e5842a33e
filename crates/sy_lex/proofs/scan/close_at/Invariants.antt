use Rattle.std.proofs.Common.{◌≡◌, ◌+◌, length}
use Rattle.sy_lex.specs.Front.{pair_from}
use Rattle.sy_lex.proofs.scan.close_at.Given as goal

abbrev pub invariant-loop-rest : goal.invariant-loop-rest
invariant-loop-rest l = record { same : pair_from 42 47 0 l.bytes ≡ pair_from 42 47 l.at l.rest; count : l.at + length l.rest ≡ length l.bytes }

abbrev pub decreases-loop-rest : goal.decreases-loop-rest
decreases-loop-rest l = length l.rest
