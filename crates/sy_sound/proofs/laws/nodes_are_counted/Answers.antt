use Rattle.sy_sound.proofs.CountLemmas.{node_below, nodes_few}
use Rattle.sy_sound.proofs.laws.nodes_are_counted.Goals as goal

pub returns-clause-below : goal.returns-clause-below
returns-clause-below c = node_below

pub returns-clause-few : goal.returns-clause-few
returns-clause-few c = nodes_few
