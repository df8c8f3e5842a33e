use Rattle.sy_lagging.proofs.AnswerLemmas.{last_fits, told-fits}
use Rattle.sy_lagging.proofs.laws.answers_fit_their_asks.Goals as goal

pub returns-clause-last : goal.returns-clause-last
returns-clause-last c = last_fits

pub returns-clause-told : goal.returns-clause-told
returns-clause-told c = told-fits
