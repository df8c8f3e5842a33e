use Rattle.sy_sound.proofs.SoundLemmas.{seq-sound}
use Rattle.sy_sound.proofs.laws.states_are_sound.Goals as goal

pub returns : goal.returns
returns c = seq-sound
