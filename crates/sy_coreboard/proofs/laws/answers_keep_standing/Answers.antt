use Rattle.sy_coreboard.proofs.HostLemmas.{takes-stands, hears-stands}
use Rattle.sy_coreboard.proofs.laws.answers_keep_standing.Goals as goal

pub returns-clause-takes : goal.returns-clause-takes
returns-clause-takes c = takes-stands

pub returns-clause-hears : goal.returns-clause-hears
returns-clause-hears c = hears-stands
