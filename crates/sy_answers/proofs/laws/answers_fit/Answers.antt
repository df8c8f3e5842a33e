use Rattle.sy_answers.proofs.RunLemmas.{step_fits}
use Rattle.sy_answers.proofs.laws.answers_fit.Goals as goal

pub returns : goal.returns
returns c = step_fits
