use Rattle.sy_top.proofs.Stretches.{spells, have_steps, are_longest}
use Rattle.sy_top.proofs.trace.lines_are_longest.Goals as goal

pub returns-clause-spelled : goal.returns-clause-spelled
returns-clause-spelled c = spells

pub returns-clause-steps : goal.returns-clause-steps
returns-clause-steps c = have_steps

pub returns-clause-longest : goal.returns-clause-longest
returns-clause-longest c = are_longest
