use Rattle.sy_coreboard.proofs.TaskLemmas.{begin-stands, moves-stands, installs-stands}
use Rattle.sy_coreboard.proofs.laws.tasks_keep_standing.Goals as goal

pub returns-clause-command : goal.returns-clause-command
returns-clause-command c = begin-stands

pub returns-clause-copy : goal.returns-clause-copy
returns-clause-copy c = moves-stands

pub returns-clause-installed : goal.returns-clause-installed
returns-clause-installed c = installs-stands
