use Rattle.sy_meaning.proofs.ItemOrderLemmas.{calm, fault_reordered, store_reordered}
use Rattle.sy_meaning.proofs.StopLemmas.{together, agree_reordered}
use Rattle.sy_meaning.proofs.laws.items_may_go_in_any_order.Goals as goal

pub returns-clause-calm : goal.returns-clause-calm
returns-clause-calm c = λ order items h. fault_reordered order items (calm items h)

pub returns-clause-stops : goal.returns-clause-stops
returns-clause-stops c = λ order items h. agree_reordered order items (together items h)

pub returns-clause-store : goal.returns-clause-store
returns-clause-store c = λ order items now h. store_reordered order items now (calm items h)
