use Rattle.std.proofs.Common.{ap}
use Rattle.sy_onecopy.specs.Step.{give_all}
use Rattle.sy_settling.proofs.SettledAskLemmas.{ask-settle, begin_ask-settle}
use Rattle.sy_settling.proofs.laws.effects_commute_with_settling.Goals as goal

pub returns-clause-begin_ask : goal.returns-clause-begin_ask
returns-clause-begin_ask c = begin_ask-settle

pub returns-clause-settled : goal.returns-clause-settled
returns-clause-settled c = ask-settle

pub returns-clause-given : goal.returns-clause-given
returns-clause-given c out b t q o m = ap give_all (ask-settle out b t q o m)
