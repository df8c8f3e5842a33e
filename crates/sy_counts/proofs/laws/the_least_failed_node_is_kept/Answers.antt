use Rattle.sy_counts.proofs.ErrorLemmas.{queue-fails, queue-same, any-fails, any-same}
use Rattle.sy_counts.proofs.laws.the_least_failed_node_is_kept.Goals as goal

pub returns-clause-on_queue : goal.returns-clause-on_queue
returns-clause-on_queue c = queue-fails

pub returns-clause-other_queue : goal.returns-clause-other_queue
returns-clause-other_queue c = queue-same

pub returns-clause-of_all : goal.returns-clause-of_all
returns-clause-of_all c = any-fails

pub returns-clause-no_failure : goal.returns-clause-no_failure
returns-clause-no_failure c = any-same
