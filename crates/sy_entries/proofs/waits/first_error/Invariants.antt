use Rattle.std.proofs.Common.{◌≡◌, drop}
use Rattle.sy_onecopy.specs.Sequence.{first_error}
use Rattle.sy_entries.proofs.waits.first_error.Given as goal

abbrev pub invariant-loop-e : goal.invariant-loop-e
invariant-loop-e l = first_error (drop l.e-index l.entries) ≡ first_error l.entries
