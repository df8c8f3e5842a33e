use Rattle.sy_links.proofs.GraphLemmas.{graph-added, graph-done, graph-granted, named_is}
use Rattle.sy_links.proofs.laws.the_graph_goes_with_the_entries.Goals as goal

pub returns-clause-added : goal.returns-clause-added
returns-clause-added c = graph-added

pub returns-clause-finished : goal.returns-clause-finished
returns-clause-finished c = graph-done

pub returns-clause-granted : goal.returns-clause-granted
returns-clause-granted c = graph-granted

pub returns-clause-named : goal.returns-clause-named
returns-clause-named c = named_is
