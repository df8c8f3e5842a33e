use Rattle.std.proofs.Common.{Err, ap}
use Rattle.sy_top.proofs.Accepting.{judges_tree, serial_refused}
use Rattle.sy_top.proofs.call.run_source.Goals as goal

pub returns-in-Ok : goal.returns-in-Ok
returns-in-Ok c = judges_tree c.args.set.now c.args.bytes.now c.requires.job c.in-Ok.unit c.in-Ok.ensures.found c.in-Ok.ensures.only c.judge_tree.result c.judge_tree.ensures

pub returns-in-Err : goal.returns-in-Err
returns-in-Err c =
    serial_refused c.args.set.now c.args.bytes.now c.requires.job c.in-Err.stop (λ d e. c.in-Err.ensures.refused d (ap (λ x. Err x) e)) c.refuse_stop.result c.refuse_stop.ensures
