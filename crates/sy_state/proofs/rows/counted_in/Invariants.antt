use Rattle.std.proofs.Common.{◌≡◌, ◌+◌, length}
use Rattle.std.specs.Prelude.{sum_by}
use Rattle.sy_meaning.specs.Frame.{counted}
use Rattle.sy_state.proofs.rows.counted_in.Given as goal

-- what is counted, with the rest, is all
abbrev pub invariant-loop-rest : goal.invariant-loop-rest
invariant-loop-rest l = l.total + sum_by counted l.rest ≡ sum_by counted l.rows

abbrev pub decreases-loop-rest : goal.decreases-loop-rest
decreases-loop-rest l = length l.rest
