use Rattle.std.proofs.Common.{◌++◌, take, arith, length-append, length-take}
use Rattle.std.proofs.KnownBytes.{Consumes-trans}
use Rattle.std.proofs.lemmas.Result.{err_from_is_err_and}
use Rattle.sy_io.proofs.read_all.Goals as goal

pub returns-then-count-room-clause-stopped : goal.returns-then-count-room-clause-stopped
returns-then-count-room-clause-stopped g c =
    let read = c.loop-all.invariant.0 in
    let all = c.loop-all.all.items in
    let given = take c.in_ok-count.count c.read_front.new.buffer in (
      all ++ given,
      Consumes-trans _ _ _ _ _ read.consumed c.in_ok-count.ensures.consumed,
      omega (arith, length-append all given, length-take c.in_ok-count.count c.read_front.new.buffer, c.in_ok-count.ensures.bound, c.loop-all.all.ok.0),
    )

pub returns-in_err-extend_from_slice-clause-stopped : goal.returns-in_err-extend_from_slice-clause-stopped
returns-in_err-extend_from_slice-clause-stopped g c =
    let read = c.loop-all.invariant.0 in
    let all = c.loop-all.all.items in
    let given = take c.in_ok-count.count c.read_front.new.buffer in
    let p = err_from_is_err_and c.from_residual-in_err-extend_from_slice.result c.from_residual-in_err-extend_from_slice.ensures.1 in
    rw (p.1, p.2) (
      all ++ given,
      Consumes-trans _ _ _ _ _ read.consumed c.in_ok-count.ensures.consumed,
      omega (arith, length-append all given, length-take c.in_ok-count.count c.read_front.new.buffer, c.loop-all.all.ok.0),
    )
