use Rattle.sy_sound.proofs.CountLemmas.{copies_few}
use Rattle.sy_sound.proofs.laws.copies_are_few.Goals as goal

pub returns : goal.returns
returns c b s = copies_few b.entries b.buffers
