use Rattle.std.proofs.Common.{◌≡◌, length}
use Rattle.sy_sums.specs.Form.{first_given, unbuilt_statement}
use Rattle.sy_sums.proofs.form.unbuilt_block.Given as goal

abbrev pub invariant-loop-statements : goal.invariant-loop-statements
invariant-loop-statements l = first_given unbuilt_statement l.statements ≡ first_given unbuilt_statement l.fn.statements

abbrev pub decreases-loop-statements : goal.decreases-loop-statements
decreases-loop-statements l = length l.statements
