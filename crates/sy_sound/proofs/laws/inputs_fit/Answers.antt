use Rattle.sy_sound.proofs.InputLemmas.{node_fits}
use Rattle.sy_sound.proofs.laws.inputs_fit.Goals as goal

pub returns : goal.returns
returns c = node_fits
