use Rattle.sy_onecopy.proofs.StepLemmas.{ended_is_final}
use Rattle.sy_onecopy.proofs.laws.an_ending_is_final.Goals as goal

pub returns : goal.returns
returns c = ended_is_final
