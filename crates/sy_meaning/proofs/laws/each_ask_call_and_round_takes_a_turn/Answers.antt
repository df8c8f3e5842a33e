use Rattle.sy_meaning.proofs.LoopLemmas.{round_takes}
use Rattle.sy_meaning.proofs.TurnLemmas.{ask_takes, call_takes, last_turn}
use Rattle.sy_meaning.proofs.laws.each_ask_call_and_round_takes_a_turn.Goals as goal

pub returns-clause-ask : goal.returns-clause-ask
returns-clause-ask c = ask_takes

pub returns-clause-call : goal.returns-clause-call
returns-clause-call c = call_takes

pub returns-clause-no_call : goal.returns-clause-no_call
returns-clause-no_call c = last_turn

pub returns-clause-round : goal.returns-clause-round
returns-clause-round c = round_takes
