use Rattle.sy_coreboard.proofs.OpeningLemmas.{make-stands}
use Rattle.sy_coreboard.proofs.laws.a_new_core_stands.Goals as goal

pub returns : goal.returns
returns c = make-stands
