use Rattle.sy_onecopy.proofs.SettleLemmas.{settled, settled_again}
use Rattle.sy_onecopy.proofs.laws.one_pass_settles.Goals as goal

pub returns-clause-settled : goal.returns-clause-settled
returns-clause-settled c = settled

pub returns-clause-again : goal.returns-clause-again
returns-clause-again c = settled_again
