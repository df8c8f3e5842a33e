use Rattle.sy_meaning.proofs.AlikeBodyLemmas.{call_repeats, depth_same}
use Rattle.sy_meaning.proofs.laws.no_call_counts_its_depth.Goals as goal

pub returns-clause-call : goal.returns-clause-call
returns-clause-call c = call_repeats

pub returns-clause-body : goal.returns-clause-body
returns-clause-body c = depth_same
