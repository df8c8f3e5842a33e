use Rattle.sy_counts.proofs.EntryCountLemmas.{on-tells, nodes-tell, below-tells, asked-all}
use Rattle.sy_counts.proofs.laws.counts_tell_what_is_open.Goals as goal

pub returns-clause-on : goal.returns-clause-on
returns-clause-on c = on-tells

pub returns-clause-nodes : goal.returns-clause-nodes
returns-clause-nodes c = nodes-tell

pub returns-clause-below : goal.returns-clause-below
returns-clause-below c = below-tells

pub returns-clause-asked : goal.returns-clause-asked
returns-clause-asked c = asked-all
