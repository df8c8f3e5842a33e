use Rattle.sy_meaning.proofs.GroupOrderLemmas.{kernel_reordered}
use Rattle.sy_meaning.proofs.laws.groups_may_go_in_any_order.Goals as goal

pub returns : goal.returns
returns c = kernel_reordered
