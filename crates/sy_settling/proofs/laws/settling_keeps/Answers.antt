use Rattle.sy_settling.proofs.AlikeLemmas.{alike-settle, alike-ask, same-answer}
use Rattle.sy_settling.proofs.laws.settling_keeps.Goals as goal

pub returns-clause-settled : goal.returns-clause-settled
returns-clause-settled c = alike-settle

pub returns-clause-asked : goal.returns-clause-asked
returns-clause-asked c = alike-ask

pub returns-clause-answer : goal.returns-clause-answer
returns-clause-answer c = same-answer
