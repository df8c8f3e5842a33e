use Rattle.sy_graph.proofs.ReadyLemmas.{ready_tells, ready_from}
use Rattle.sy_graph.proofs.graph.ready_means_no_pending_before.Goals as goal

pub returns : goal.returns
returns c = λ nodes n. (ready_tells nodes n, ready_from nodes n)
