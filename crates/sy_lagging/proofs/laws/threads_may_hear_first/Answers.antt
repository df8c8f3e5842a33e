use Rattle.sy_lagging.proofs.HearLemmas.{catch_up-hear}
use Rattle.sy_lagging.proofs.laws.threads_may_hear_first.Goals as goal

pub returns : goal.returns
returns c = catch_up-hear
