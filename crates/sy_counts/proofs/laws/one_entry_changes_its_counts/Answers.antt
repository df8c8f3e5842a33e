use Rattle.sy_counts.proofs.EntryCountLemmas.{on-changed, nodes-changed, below-changed, done-changed, accesses-changed, access-changed}
use Rattle.sy_counts.proofs.laws.one_entry_changes_its_counts.Goals as goal

pub returns-clause-on : goal.returns-clause-on
returns-clause-on c = on-changed

pub returns-clause-nodes : goal.returns-clause-nodes
returns-clause-nodes c = nodes-changed

pub returns-clause-below : goal.returns-clause-below
returns-clause-below c = below-changed

pub returns-clause-done : goal.returns-clause-done
returns-clause-done c = done-changed

pub returns-clause-accesses : goal.returns-clause-accesses
returns-clause-accesses c = accesses-changed

pub returns-clause-access_from : goal.returns-clause-access_from
returns-clause-access_from c = access-changed
