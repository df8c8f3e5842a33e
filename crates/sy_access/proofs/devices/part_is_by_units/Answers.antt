use Rattle.sy_access.proofs.Equal.{part_is_units}
use Rattle.sy_access.proofs.devices.part_is_by_units.Goals as goal

pub returns : goal.returns
returns c = part_is_units
