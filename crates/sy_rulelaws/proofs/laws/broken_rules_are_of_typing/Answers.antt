use Rattle.sy_rulelaws.proofs.UnitLemmas.{first_is_typing}
use Rattle.sy_rulelaws.proofs.laws.broken_rules_are_of_typing.Goals as goal

pub returns : goal.returns
returns c = first_is_typing
