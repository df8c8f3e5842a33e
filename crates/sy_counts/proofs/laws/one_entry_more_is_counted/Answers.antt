use Rattle.sy_counts.proofs.EntryCountLemmas.{on-more, nodes-more, below-more, done-more, accesses-more, found-more, added-more}
use Rattle.sy_counts.proofs.ErrorLemmas.{queue-more, any-more}
use Rattle.sy_counts.proofs.laws.one_entry_more_is_counted.Goals as goal

pub returns-clause-on : goal.returns-clause-on
returns-clause-on c = on-more

pub returns-clause-nodes : goal.returns-clause-nodes
returns-clause-nodes c = nodes-more

pub returns-clause-below : goal.returns-clause-below
returns-clause-below c = below-more

pub returns-clause-done : goal.returns-clause-done
returns-clause-done c = done-more

pub returns-clause-accesses : goal.returns-clause-accesses
returns-clause-accesses c = accesses-more

pub returns-clause-found : goal.returns-clause-found
returns-clause-found c = found-more

pub returns-clause-added : goal.returns-clause-added
returns-clause-added c = added-more

pub returns-clause-error_on : goal.returns-clause-error_on
returns-clause-error_on c = queue-more

pub returns-clause-first_error : goal.returns-clause-first_error
returns-clause-first_error c = any-more
