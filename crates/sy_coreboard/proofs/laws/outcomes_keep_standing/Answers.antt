use Rattle.sy_coreboard.proofs.TaskLemmas.{finish-stands}
use Rattle.sy_coreboard.proofs.laws.outcomes_keep_standing.Goals as goal

pub returns : goal.returns
returns c = finish-stands
