use Rattle.sy_onecopy.proofs.StepLemmas.{steps_counted}
use Rattle.sy_onecopy.proofs.laws.steps_are_counted.Goals as goal

pub returns : goal.returns
returns c = steps_counted
