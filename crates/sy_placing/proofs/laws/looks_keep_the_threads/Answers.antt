use Rattle.sy_placing.proofs.ThreadLemmas.{block_keeps_threads}
use Rattle.sy_placing.proofs.laws.looks_keep_the_threads.Goals as goal

pub returns : goal.returns
returns c = block_keeps_threads
