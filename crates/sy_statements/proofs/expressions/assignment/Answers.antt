use Rattle.sy_statements.proofs.Wholes.{assignment_told}
use Rattle.sy_statements.proofs.expressions.assignment.Goals as goal

pub returns : goal.returns
returns c = λ s.
    assignment_told c.args.t c.args.v c.args.op s
    c.args.findings.now c.wrong_target.new.findings c.no_integer.new.findings c.no_assignable.new.findings c.bad_mode.new.findings c.unread.new.findings
    c.wrong_target.ensures c.no_integer.ensures (c.no_assignable.ensures s) c.bad_mode.ensures c.unread.ensures
