use Rattle.std.proofs.Common.{IsTrue}
use Rattle.sy_sound.proofs.AgreeLemmas.{known_run}
use Rattle.sy_sound.proofs.laws.commands_stay_known.Goals as goal

pub returns : goal.returns
returns c knows p order s all h = known_run (λ c. IsTrue (knows c)) p all order s h
