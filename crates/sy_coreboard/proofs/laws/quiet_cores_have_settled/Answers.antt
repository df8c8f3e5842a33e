use Rattle.sy_coreboard.proofs.ChoiceLemmas.{misses_nothing, is_missed, quiet-settled}
use Rattle.sy_coreboard.proofs.laws.quiet_cores_have_settled.Goals as goal

pub returns-clause-nothing : goal.returns-clause-nothing
returns-clause-nothing c = misses_nothing

pub returns-clause-missed : goal.returns-clause-missed
returns-clause-missed c = is_missed

pub returns-clause-settled : goal.returns-clause-settled
returns-clause-settled c = quiet-settled
