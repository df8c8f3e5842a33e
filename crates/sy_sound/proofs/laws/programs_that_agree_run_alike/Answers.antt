use Rattle.std.proofs.Common.{IsTrue}
use Rattle.sy_sound.proofs.AgreeLemmas.{seq_alike}
use Rattle.sy_sound.proofs.laws.programs_that_agree_run_alike.Goals as goal

pub returns : goal.returns
returns c knows p q order e agree asks = seq_alike (λ c. IsTrue (knows c)) p q agree order e asks
