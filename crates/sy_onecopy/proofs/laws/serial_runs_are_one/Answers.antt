use Rattle.sy_onecopy.proofs.RunLemmas.{one_order, one_serial}
use Rattle.sy_onecopy.proofs.laws.serial_runs_are_one.Goals as goal

pub returns-clause-order : goal.returns-clause-order
returns-clause-order c = one_order

pub returns-clause-serial : goal.returns-clause-serial
returns-clause-serial c = one_serial
