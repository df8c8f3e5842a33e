use Rattle.sy_work.proofs.ReadLemmas.{read_back}
use Rattle.sy_work.proofs.moves.moves_are_read_back.Goals as goal

pub returns : goal.returns
returns c = read_back
