use Rattle.std.proofs.Common.{◌≡◌, drop}
use Rattle.sy_onecopy.specs.Step.{error_on}
use Rattle.sy_entries.proofs.waits.error_on.Given as goal

abbrev pub invariant-loop-e : goal.invariant-loop-e
invariant-loop-e l = error_on l.q (drop l.e-index l.entries) ≡ error_on l.q l.entries
