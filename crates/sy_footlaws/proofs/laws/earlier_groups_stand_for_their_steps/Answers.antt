use Rattle.sy_footlaws.proofs.GroupLemmas.{absorbed-on, groups-begin, meets-told}
use Rattle.sy_footlaws.proofs.laws.earlier_groups_stand_for_their_steps.Goals as goal

pub returns : goal.returns
returns c = record { begins = groups-begin; absorbed = absorbed-on; meets = meets-told }
