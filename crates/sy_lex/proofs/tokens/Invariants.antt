use Rattle.std.proofs.Common.{◌≡◌, ◌+◌, ◌≤◌, length}
use Rattle.sy_lex.proofs.Readings.{IsAt}
use Rattle.sy_lex.proofs.tokens.Given as goal

abbrev pub invariant-loop-rest : goal.invariant-loop-rest
invariant-loop-rest l = record {
  at : IsAt l.bytes l.out.items l.rest l.from l.spot;
  count : l.from + length l.rest ≡ length l.bytes;
  line : l.spot.line + length l.rest ≤ length l.bytes + 1;
  column : l.spot.column + length l.rest ≤ length l.bytes + 1;
}

abbrev pub decreases-loop-rest : goal.decreases-loop-rest
decreases-loop-rest l = length l.rest
