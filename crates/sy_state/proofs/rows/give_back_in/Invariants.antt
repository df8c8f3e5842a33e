use Rattle.std.proofs.Common.{◌≡◌, ◌++◌, ◌-◌, drop, length, map, take}
use Rattle.sy_meaning.specs.Frame.{given_back}
use Rattle.sy_state.proofs.rows.give_back_in.Given as goal

-- the vectors before this one are done
abbrev pub invariant-loop-v : goal.invariant-loop-v
invariant-loop-v l = take l.v l.rows ++ map (given_back l.buffer l.values) (drop l.v l.rows) ≡ map (given_back l.buffer l.values) l.fn.rows

abbrev pub decreases-loop-v : goal.decreases-loop-v
decreases-loop-v l = length l.rows - l.v
