use Rattle.sy_access.proofs.Written.{same_decides, logged_tells}
use Rattle.sy_access.proofs.cells.a_log_names_each_cell_once.Goals as goal

pub returns-clause-cells : goal.returns-clause-cells
returns-clause-cells c = same_decides

pub returns-clause-numbers : goal.returns-clause-numbers
returns-clause-numbers c = logged_tells
