use Rattle.sy_rules.proofs.Worked.{worked}
use Rattle.sy_rules.proofs.laws.small_sources_break_their_rules.Goals as goal

pub returns : goal.returns
returns c = worked
