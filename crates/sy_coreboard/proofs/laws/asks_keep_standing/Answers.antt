use Rattle.sy_coreboard.proofs.AskLemmas.{ask-stands}
use Rattle.sy_coreboard.proofs.laws.asks_keep_standing.Goals as goal

pub returns : goal.returns
returns c = ask-stands
