use Rattle.sy_meaning.proofs.LoopLemmas.{do_repeats, for_repeats, while_repeats}
use Rattle.sy_meaning.proofs.laws.no_loop_counts_its_rounds.Goals as goal

pub returns-clause-while_loop : goal.returns-clause-while_loop
returns-clause-while_loop c = while_repeats

pub returns-clause-do_loop : goal.returns-clause-do_loop
returns-clause-do_loop c = do_repeats

pub returns-clause-for_loop : goal.returns-clause-for_loop
returns-clause-for_loop c = for_repeats
