-- A ready node is one of the list.
use Rattle.std.proofs.Common.{arith}
use Rattle.std.proofs.lemmas.Grind.{common_steps}
use Rattle.sy_graph.proofs.ReadyLemmas.{ready_within}
use Rattle.sy_graph.proofs.graph.Graph.done.Goals as goal

pub index_mut-requires : goal.index_mut-requires
index_mut-requires c = grind (arith, common_steps, ready_within c.args.self.now c.args.n c.requires)
