use Rattle.sy_tree.proofs.Theorems.{Derives-takes}
use Rattle.sy_tree.proofs.laws.trees_take_tokens.Goals as goal

pub returns : goal.returns
returns c = Derives-takes
