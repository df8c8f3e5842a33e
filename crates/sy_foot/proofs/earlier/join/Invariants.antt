use Rattle.std.proofs.Common.{◌≡◌, drop}
use Rattle.sy_foot.specs.Earlier.{joined}
use Rattle.sy_foot.proofs.earlier.join.Given as goal

abbrev pub invariant-loop-entry : goal.invariant-loop-entry
invariant-loop-entry l = joined l.states.items (drop l.entry-index l.entries) ≡ joined l.initial.states.items l.entries
