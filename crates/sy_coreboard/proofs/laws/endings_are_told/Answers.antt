use Rattle.sy_coreboard.proofs.EndingLemmas.{ends-by_step, ends-by_main, ends-stuck, ends-full}
use Rattle.sy_coreboard.proofs.laws.endings_are_told.Goals as goal

pub returns-clause-step : goal.returns-clause-step
returns-clause-step c = ends-by_step

pub returns-clause-main : goal.returns-clause-main
returns-clause-main c = ends-by_main

pub returns-clause-stuck : goal.returns-clause-stuck
returns-clause-stuck c = ends-stuck

pub returns-clause-full : goal.returns-clause-full
returns-clause-full c = ends-full
