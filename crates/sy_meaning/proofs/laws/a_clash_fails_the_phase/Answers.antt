use Rattle.sy_meaning.proofs.ItemOrderLemmas.{clash_fails}
use Rattle.sy_meaning.proofs.laws.a_clash_fails_the_phase.Goals as goal

pub returns : goal.returns
returns c = clash_fails
