use Rattle.std.proofs.Common.{◌≡◌, ◌-◌, ◌≤◌, min, length, drop, arith, length-take, length-drop}
use Rattle.sy_io.proofs.Bytes.{given_front, none_at_end}
use Rattle.sy_io.proofs.Counted.{fault_counted}
use Rattle.sy_io.proofs.memory.MemSourceSource.read.Goals as goal

pub returns-then-next_fails-clause-cause : goal.returns-then-next_fails-clause-cause
returns-then-next_fails-clause-cause c =
    rw (← c.self.view_is) (fault_counted _ _ _ _ c.next_fails.ensures.counted c.count_fault.ensures.counted c.count_fault.ensures.later)

pub returns-clause-bytes : goal.returns-clause-bytes
returns-clause-bytes c =
    let slice = c.deref.result.now in
    let at = c.self.inside.at in
    let n = c.min-count.result in
    let starts : at ≤ length slice = omega (arith, c.deref.ensures.len) in
    let most : n ≡ min (min c.self.inside.piece (length c.args.into.now)) (length slice - at) =
    omega (arith, c.min-count.ensures, c.min.ensures, length-take (length slice - at) (drop at slice), length-drop at slice) in
    let copied : length c.copy_from_slice.new.self ≡ n = omega (arith, c.copy_from_slice.ensures.len, length-take n c.args.into.now) in
    rw (← c.self.view_is, ← c.deref.ensures.value) (
      given_front slice _ _ at n starts c.copy_from_slice.ensures.after (omega arith),
      none_at_end slice _ _ at _ n c.self.invariant.0 most copied,
    )
