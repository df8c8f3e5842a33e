use Rattle.std.proofs.Common.{◌≡◌, drop}
use Rattle.sy_onecopy.specs.Step.{access_from}
use Rattle.sy_entries.proofs.waits.access_at.Given as goal

abbrev pub invariant-loop-at : goal.invariant-loop-at
invariant-loop-at l = access_from l.at (drop l.at l.entries) l.t l.k ≡ access_from 0 l.entries l.t l.k
