use Rattle.std.proofs.Common.{◌≡◌, ◌-◌, ◌+◌, length}
use Rattle.sy_meaning.specs.Frame.{put_at}
use Rattle.sy_state.proofs.locals.put_in.Given as goal

-- what is put there comes to the same
abbrev pub invariant-loop-alloc : goal.invariant-loop-alloc
invariant-loop-alloc l = put_at l.n l.fn.object l.frame ≡ put_at l.n l.fn.object l.fn.frame

abbrev pub decreases-loop-alloc : goal.decreases-loop-alloc
decreases-loop-alloc l = l.n + 1 - length l.frame
