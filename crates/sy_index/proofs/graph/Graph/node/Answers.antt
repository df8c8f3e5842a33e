-- The slots tell of each node what the list of nodes has.
use Rattle.std.proofs.Common.{ap, ◌∙◌, List, Option, None}
use Rattle.std.specs.Prelude.{slice_get, unwrap_or}
use Rattle.sy_graph.specs.declared.node.Node.{Node}
use Rattle.sy_index.proofs.SuccessorLemmas.{pending-node}
use Rattle.sy_index.proofs.graph.Graph.node.Goals as goal

pub returns : goal.returns
returns c = c.node.ensures ∙ pending-node c.self.inside.slots c.args.n ∙ ap (λ (v : List (Option Node)). unwrap_or (slice_get v c.args.n) None) c.self.view_is
