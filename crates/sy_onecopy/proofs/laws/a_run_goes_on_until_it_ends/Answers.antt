use Rattle.sy_onecopy.proofs.RunLemmas.{goes_on_until}
use Rattle.sy_onecopy.proofs.laws.a_run_goes_on_until_it_ends.Goals as goal

pub returns : goal.returns
returns c = goes_on_until
