use Rattle.sy_links.proofs.ReadyLemmas.{ready_is}
use Rattle.sy_links.proofs.laws.ready_nodes_are_free_entries.Goals as goal

pub returns : goal.returns
returns c = ready_is
