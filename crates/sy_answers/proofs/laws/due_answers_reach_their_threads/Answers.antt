use Rattle.sy_answers.proofs.RunLemmas.{all_told, all_started, all_counted}
use Rattle.sy_answers.proofs.laws.due_answers_reach_their_threads.Goals as goal

pub returns-clause-told : goal.returns-clause-told
returns-clause-told c = all_told

pub returns-clause-started : goal.returns-clause-started
returns-clause-started c = all_started

pub returns-clause-count : goal.returns-clause-count
returns-clause-count c = all_counted
