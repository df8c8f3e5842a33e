use Rattle.sy_tree.proofs.Theorems.{Derives-begins}
use Rattle.sy_tree.proofs.laws.trees_begin_with_their_words.Goals as goal

pub returns : goal.returns
returns c = Derives-begins
