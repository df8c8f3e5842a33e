-- A node that waits for none is ready.
use Rattle.std.proofs.Common.{ap, ◌∙◌, List, Option}
use Rattle.sy_graph.specs.Before.{is_ready}
use Rattle.sy_graph.specs.declared.node.Node.{Node}
use Rattle.sy_index.proofs.IndexLemmas.{idle_is}
use Rattle.sy_index.proofs.graph.Graph.ready.Goals as goal

pub returns : goal.returns
returns c = c.is_idle.ensures ∙ idle_is _ _ _ c.args.n c.self.invariant ∙ ap (λ (v : List (Option Node)). is_ready v c.args.n) c.self.view_is
