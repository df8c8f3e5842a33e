use Rattle.sy_inorder.proofs.EndLemmas.{end_gives}
use Rattle.sy_inorder.proofs.laws.a_vector_gets_what_the_last_writer_left.Goals as goal

pub returns : goal.returns
returns c = end_gives
