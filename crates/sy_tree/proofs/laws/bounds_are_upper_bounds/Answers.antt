use Rattle.sy_tree.proofs.Theorems.{Derives-taller, Derives-looser}
use Rattle.sy_tree.proofs.laws.bounds_are_upper_bounds.Goals as goal

pub returns-clause-taller : goal.returns-clause-taller
returns-clause-taller c = Derives-taller

pub returns-clause-looser : goal.returns-clause-looser
returns-clause-looser c = Derives-looser
