use Rattle.sy_rules.proofs.Firsts.{rank_order}
use Rattle.sy_rules.proofs.laws.rules_are_told_by_their_places.Goals as goal

pub returns : goal.returns
returns c = rank_order
