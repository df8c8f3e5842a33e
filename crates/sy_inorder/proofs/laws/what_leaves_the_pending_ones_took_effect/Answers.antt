use Rattle.sy_inorder.proofs.EndLemmas.{took_effect}
use Rattle.sy_inorder.proofs.laws.what_leaves_the_pending_ones_took_effect.Goals as goal

pub returns : goal.returns
returns c = took_effect
