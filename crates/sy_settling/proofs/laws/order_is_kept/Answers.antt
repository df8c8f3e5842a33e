use Rattle.sy_settling.proofs.OrderlyEffectLemmas.{orderly-effect}
use Rattle.sy_settling.proofs.SettleLemmas.{orderly-settle}
use Rattle.sy_settling.proofs.SettledAskLemmas.{may_ask-effect}
use Rattle.sy_settling.proofs.LegalOrderLemmas.{orderly-opening, orderly-begin_ask, orderly-apply, orderly-give, orderly-heard}
use Rattle.sy_settling.proofs.DeferredLemmas.{orderly-told}
use Rattle.sy_settling.proofs.laws.order_is_kept.Goals as goal

pub returns-clause-opening : goal.returns-clause-opening
returns-clause-opening c = orderly-opening

pub returns-clause-effect : goal.returns-clause-effect
returns-clause-effect c out b k e o f = orderly-effect out b k e (record { orderly = o; at = f.0; free = f.1 })

pub returns-clause-may_ask : goal.returns-clause-may_ask
returns-clause-may_ask c out b k e t q o f m = may_ask-effect out b k e t q m (record { orderly = o; at = f.0; free = f.1 })

pub returns-clause-settled : goal.returns-clause-settled
returns-clause-settled c = orderly-settle

pub returns-clause-begin_ask : goal.returns-clause-begin_ask
returns-clause-begin_ask c = orderly-begin_ask

pub returns-clause-asked : goal.returns-clause-asked
returns-clause-asked c = orderly-apply

pub returns-clause-given : goal.returns-clause-given
returns-clause-given c = orderly-give

pub returns-clause-heard : goal.returns-clause-heard
returns-clause-heard c = orderly-heard

pub returns-clause-told : goal.returns-clause-told
returns-clause-told c = orderly-told
