use Rattle.sy_sums.proofs.Built.{all_is_printed}
use Rattle.sy_sums.proofs.laws.all_is_printed.Goals as goal

pub returns : goal.returns
returns c = all_is_printed
