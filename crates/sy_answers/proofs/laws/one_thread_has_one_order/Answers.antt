use Rattle.sy_answers.proofs.AloneLemmas.{all_zeros, only_order}
use Rattle.sy_answers.proofs.laws.one_thread_has_one_order.Goals as goal

pub returns-clause-alone : goal.returns-clause-alone
returns-clause-alone c = all_zeros

pub returns-clause-only : goal.returns-clause-only
returns-clause-only c = only_order
