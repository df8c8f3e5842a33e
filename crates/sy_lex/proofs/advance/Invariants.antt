use Rattle.std.proofs.Common.{◌≡◌, ◌+◌, ◌≤◌, drop}
use Rattle.sy_lex.specs.Front.{after}
use Rattle.sy_lex.proofs.advance.Given as goal

abbrev pub invariant-loop-b : goal.invariant-loop-b
invariant-loop-b l = record {
  same : after l.fn.spot l.bytes ≡ after l.at (drop l.b-index l.bytes);
  line : l.at.line ≤ l.fn.spot.line + l.b-index;
  column : l.at.column ≤ l.fn.spot.column + l.b-index;
}
