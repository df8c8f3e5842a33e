use Rattle.std.proofs.Common.{◌≡◌, ◌<◌, length}
use Rattle.sy_index.proofs.tests.same_ready.Given as goal

abbrev pub invariant-loop : goal.invariant-loop
invariant-loop g l = record {
  drawn : l.x < 65537;
  plain : length l.plain ≡ l.counter;
  index : length l.index ≡ l.counter;
}
