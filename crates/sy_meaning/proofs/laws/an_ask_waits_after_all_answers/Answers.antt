use Rattle.sy_meaning.proofs.AskLemmas.{item_by_turns, next_by_turns}
use Rattle.sy_meaning.proofs.laws.an_ask_waits_after_all_answers.Goals as goal

pub returns-clause-body : goal.returns-clause-body
returns-clause-body c = next_by_turns

pub returns-clause-item : goal.returns-clause-item
returns-clause-item c = item_by_turns
