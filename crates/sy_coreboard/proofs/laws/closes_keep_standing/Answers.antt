use Rattle.sy_coreboard.proofs.HostLemmas.{closes-stands}
use Rattle.sy_coreboard.proofs.laws.closes_keep_standing.Goals as goal

pub returns : goal.returns
returns c = closes-stands
