use Rattle.std.proofs.Common.{ap, ◌∙◌}
use Rattle.sy_index.specs.Slots.{nodes_of}
use Rattle.sy_index.proofs.IndexLemmas.{nodes_of-nil}
use Rattle.sy_index.proofs.graph.Graph.new.Goals as goal

pub returns : goal.returns
returns c = ap nodes_of c.new.ensures ∙ nodes_of-nil
