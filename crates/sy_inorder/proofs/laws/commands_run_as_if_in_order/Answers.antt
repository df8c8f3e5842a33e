use Rattle.sy_inorder.proofs.StateLemmas.{seq_holds}
use Rattle.sy_inorder.proofs.OutcomeLemmas.{seq_outcomes}
use Rattle.sy_inorder.proofs.InputLemmas.{given_inputs, sees_first, sees_last}
use Rattle.sy_inorder.proofs.laws.commands_run_as_if_in_order.Goals as goal

pub returns-clause-buffers : goal.returns-clause-buffers
returns-clause-buffers c p order s h = (seq_holds p order s h).numbers

pub returns-clause-outcomes : goal.returns-clause-outcomes
returns-clause-outcomes c p order s k n q e command legal = seq_outcomes p order s legal k n q e command

pub returns-clause-inputs : goal.returns-clause-inputs
returns-clause-inputs c = given_inputs

pub returns-clause-first : goal.returns-clause-first
returns-clause-first c = sees_first

pub returns-clause-last : goal.returns-clause-last
returns-clause-last c = sees_last
