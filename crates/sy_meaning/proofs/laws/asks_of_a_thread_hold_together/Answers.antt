use Rattle.sy_meaning.proofs.AskLemmas.{asks_are_noted}
use Rattle.sy_meaning.proofs.AskTogetherLemmas.{asks_hold}
use Rattle.sy_meaning.proofs.laws.asks_of_a_thread_hold_together.Goals as goal

pub returns-clause-answers : goal.returns-clause-answers
returns-clause-answers c = asks_are_noted

pub returns-clause-asks : goal.returns-clause-asks
returns-clause-asks c = asks_hold
