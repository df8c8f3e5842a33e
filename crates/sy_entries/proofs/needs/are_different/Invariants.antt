use Rattle.std.proofs.Common.{◌≡◌, drop}
use Rattle.sy_onecopy.specs.Step.{are_different}
use Rattle.sy_entries.proofs.needs.are_different.Given as goal

abbrev pub invariant-loop-k : goal.invariant-loop-k
invariant-loop-k l = are_different (drop l.k l.needs) ≡ are_different l.needs
