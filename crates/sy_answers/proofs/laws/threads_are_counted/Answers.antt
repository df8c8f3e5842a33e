use Rattle.sy_answers.proofs.RunLemmas.{counted}
use Rattle.sy_answers.proofs.laws.threads_are_counted.Goals as goal

pub returns : goal.returns
returns c = counted
