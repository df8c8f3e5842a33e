use Rattle.std.proofs.Common.{refl}
use Rattle.sy_gen.specs.Text.{closing}
use Rattle.sy_gen.proofs.closing_text.Goals as goal

pub returns-clause-text : goal.returns-clause-text
unfolding closing
returns-clause-text c = refl
