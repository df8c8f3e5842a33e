use Rattle.std.proofs.Common.{◌≡◌, ◌≤◌, drop, length, []}
use Rattle.sy_onecopy.specs.Copies.{pairs_from, first_made}
use Rattle.sy_entries.proofs.copies.copies_of.Given as goal

abbrev pub invariant-loop-e : goal.invariant-loop-e
invariant-loop-e l = record {
  few : l.version ≤ l.e-index;
  rest : pairs_from l.r (length l.x.values) (drop l.e-index l.entries) l.version l.made l.pairs.items ≡ pairs_from l.r (length l.x.values) l.entries 0 (first_made l.x.origin) [];
}
