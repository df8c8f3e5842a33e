use Rattle.sy_meaning.proofs.GroupOrderLemmas.{failed_group, phase_fails_group}
use Rattle.sy_meaning.proofs.laws.failures_rise.Goals as goal

pub returns-clause-group : goal.returns-clause-group
returns-clause-group c = phase_fails_group

pub returns-clause-kernel : goal.returns-clause-kernel
returns-clause-kernel c = failed_group
