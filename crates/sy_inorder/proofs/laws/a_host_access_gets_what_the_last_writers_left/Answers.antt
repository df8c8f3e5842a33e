use Rattle.sy_inorder.proofs.EndLemmas.{access_gives}
use Rattle.sy_inorder.proofs.laws.a_host_access_gets_what_the_last_writers_left.Goals as goal

pub returns : goal.returns
returns c = access_gives
