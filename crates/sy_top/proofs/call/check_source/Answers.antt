use Rattle.std.proofs.Common.{Err, ap}
use Rattle.sy_top.proofs.Accepting.{check_refused}
use Rattle.sy_top.proofs.call.check_source.Goals as goal

pub returns-in-Ok : goal.returns-in-Ok
returns-in-Ok c = (c.requires.job, (c.in-Ok._unit, c.in-Ok.ensures.found))

pub returns-in-Err : goal.returns-in-Err
returns-in-Err c =
    check_refused c.args.set.now c.args.bytes.now c.requires.job c.in-Err.stop (λ d e. c.in-Err.ensures.refused d (ap (λ x. Err x) e)) c.refuse_stop.result c.refuse_stop.ensures
