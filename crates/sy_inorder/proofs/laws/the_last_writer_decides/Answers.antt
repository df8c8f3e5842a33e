use Rattle.sy_inorder.proofs.InputLemmas.{first_number, last_writer, what_it_wrote, what_was_put}
use Rattle.sy_inorder.proofs.laws.the_last_writer_decides.Goals as goal

pub returns-clause-first : goal.returns-clause-first
returns-clause-first c = first_number

pub returns-clause-last : goal.returns-clause-last
returns-clause-last c = last_writer

pub returns-clause-wrote : goal.returns-clause-wrote
returns-clause-wrote c = what_it_wrote

pub returns-clause-closed : goal.returns-clause-closed
returns-clause-closed c = what_was_put
