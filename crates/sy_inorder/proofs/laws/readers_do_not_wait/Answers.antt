use Rattle.sy_inorder.proofs.ReaderLemmas.{readers_before, not_held, keep_off}
use Rattle.sy_inorder.proofs.GrantLemmas.{free_moves, reader_granted, opened_due}
use Rattle.sy_inorder.proofs.laws.readers_do_not_wait.Goals as goal

pub returns-clause-pairs : goal.returns-clause-pairs
returns-clause-pairs c = readers_before

pub returns-clause-held : goal.returns-clause-held
returns-clause-held c = not_held

pub returns-clause-off : goal.returns-clause-off
returns-clause-off c = keep_off

pub returns-clause-moves : goal.returns-clause-moves
returns-clause-moves c = free_moves

pub returns-clause-granted : goal.returns-clause-granted
returns-clause-granted c = reader_granted

pub returns-clause-opened : goal.returns-clause-opened
returns-clause-opened c = opened_due
