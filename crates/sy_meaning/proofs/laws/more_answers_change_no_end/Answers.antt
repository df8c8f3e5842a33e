use Rattle.sy_meaning.proofs.AlikeBodyLemmas.{item_ended, next_ended}
use Rattle.sy_meaning.proofs.laws.more_answers_change_no_end.Goals as goal

pub returns-clause-body : goal.returns-clause-body
returns-clause-body c = next_ended

pub returns-clause-item : goal.returns-clause-item
returns-clause-item c = item_ended
