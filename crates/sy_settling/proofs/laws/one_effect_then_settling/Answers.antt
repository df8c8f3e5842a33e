use Rattle.sy_settling.proofs.SettleLemmas.{effect-settle}
use Rattle.sy_settling.proofs.laws.one_effect_then_settling.Goals as goal

pub returns : goal.returns
returns c out b k e o f = effect-settle out b k e (record { orderly = o; at = f.0; free = f.1 })
