use Rattle.std.proofs.Common.{◌+◌, ◌∙◌, drop, get_or}
use Rattle.std.proofs.lemmas.List.{drop_more}
use Rattle.sy_statements.proofs.Steps.{one_argument_more}
use Rattle.sy_statements.proofs.objects.unread_arguments.Goals as goal

pub loop-x-preserved : goal.loop-x-preserved
loop-x-preserved c =
    one_argument_more c.loop-x.findings c.unread_argument.new.findings (drop c.loop-x.x-index c.args.xs.now) (drop (c.loop-x.x-index + 1) c.args.xs.now) (get_or c.args.xs.now c.loop-x.x-index c.x-item.result) c.x-item.result
    (drop_more c.args.xs.now c.loop-x.x-index c.x-item.result c.loop-x-test.true) c.x-item.is c.unread_argument.ensures
    ∙ c.loop-x.invariant
