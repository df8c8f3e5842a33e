use Rattle.std.proofs.Common.{rules}
use Rattle.sy_top.proofs.Ran.{plain_answers}
use Rattle.sy_top.proofs.do_job.Goals as goal

pub returns-then-is_plain : goal.returns-then-is_plain
returns-then-is_plain g c = record { answer = plain_answers c.args.set.now.job _ c.args.set.now c.plain_top.result (search rules) c.plain_top.ensures.cause }
