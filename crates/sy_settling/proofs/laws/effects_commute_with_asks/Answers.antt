use Rattle.sy_settling.proofs.OrderlyAskLemmas.{apply-follows}
use Rattle.sy_settling.proofs.SettledAskLemmas.{commutes}
use Rattle.sy_settling.proofs.laws.effects_commute_with_asks.Goals as goal

pub returns-clause-free : goal.returns-clause-free
returns-clause-free c b k e t q o f m = (apply-follows b t q m.idle).stays k e (record { orderly = o; at = f.0; free = f.1 })

pub returns-clause-commutes : goal.returns-clause-commutes
returns-clause-commutes c out b k e t q o f m = commutes out b k e t q m (record { orderly = o; at = f.0; free = f.1 })
