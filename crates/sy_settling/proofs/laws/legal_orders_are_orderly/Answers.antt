use Rattle.sy_settling.proofs.LegalOrderLemmas.{legal_orderly, legal_may_ask, legal_settle}
use Rattle.sy_settling.proofs.laws.legal_orders_are_orderly.Goals as goal

pub returns-clause-orderly : goal.returns-clause-orderly
returns-clause-orderly c = legal_orderly

pub returns-clause-may_ask : goal.returns-clause-may_ask
returns-clause-may_ask c = legal_may_ask

pub returns-clause-settled : goal.returns-clause-settled
returns-clause-settled c = legal_settle
