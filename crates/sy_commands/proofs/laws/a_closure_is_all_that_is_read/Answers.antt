use Rattle.sy_commands.proofs.ClosureLemmas.{same_captures, same_kernel, same_task}
use Rattle.sy_commands.proofs.laws.a_closure_is_all_that_is_read.Goals as goal

pub returns-clause-captures : goal.returns-clause-captures
returns-clause-captures c = same_captures

pub returns-clause-tasks : goal.returns-clause-tasks
returns-clause-tasks c = same_task

pub returns-clause-kernels : goal.returns-clause-kernels
returns-clause-kernels c = same_kernel
