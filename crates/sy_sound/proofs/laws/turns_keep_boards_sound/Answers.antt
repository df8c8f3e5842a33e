use Rattle.sy_sound.proofs.SoundLemmas.{opening-sound, asked-sound, settle_upto-sound, turn-sound}
use Rattle.sy_sound.proofs.laws.turns_keep_boards_sound.Goals as goal

pub returns-clause-opens : goal.returns-clause-opens
returns-clause-opens c = opening-sound

pub returns-clause-asks : goal.returns-clause-asks
returns-clause-asks c = asked-sound

pub returns-clause-settles : goal.returns-clause-settles
returns-clause-settles c = settle_upto-sound

pub returns-clause-turns : goal.returns-clause-turns
returns-clause-turns c = turn-sound
