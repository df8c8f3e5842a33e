use Rattle.sy_coreboard.proofs.ChoiceLemmas.{serial-first}
use Rattle.sy_coreboard.proofs.laws.the_serial_choice.Goals as goal

pub returns : goal.returns
returns c = serial-first
