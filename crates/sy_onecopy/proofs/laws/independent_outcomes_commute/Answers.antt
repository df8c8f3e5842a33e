use Rattle.sy_onecopy.proofs.WriteLemmas.{outcomes-swap, inputs-same}
use Rattle.sy_onecopy.proofs.laws.independent_outcomes_commute.Goals as goal

pub returns-clause-buffers : goal.returns-clause-buffers
returns-clause-buffers c = outcomes-swap

pub returns-clause-inputs : goal.returns-clause-inputs
returns-clause-inputs c = inputs-same
