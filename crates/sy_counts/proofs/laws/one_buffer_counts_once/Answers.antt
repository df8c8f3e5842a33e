use Rattle.sy_counts.proofs.BufferCountLemmas.{live-more, live-ends, live-alike}
use Rattle.sy_counts.proofs.laws.one_buffer_counts_once.Goals as goal

pub returns-clause-more : goal.returns-clause-more
returns-clause-more c = live-more

pub returns-clause-ends : goal.returns-clause-ends
returns-clause-ends c = live-ends

pub returns-clause-stays : goal.returns-clause-stays
returns-clause-stays c = live-alike
