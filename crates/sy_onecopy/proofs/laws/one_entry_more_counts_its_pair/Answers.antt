use Rattle.sy_onecopy.proofs.RunLemmas.{one_more_pair}
use Rattle.sy_onecopy.proofs.laws.one_entry_more_counts_its_pair.Goals as goal

pub returns : goal.returns
returns c = one_more_pair
