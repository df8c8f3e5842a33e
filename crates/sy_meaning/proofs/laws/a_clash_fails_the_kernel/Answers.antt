use Rattle.sy_meaning.proofs.GroupOrderLemmas.{kernel_clash_fails}
use Rattle.sy_meaning.proofs.laws.a_clash_fails_the_kernel.Goals as goal

pub returns : goal.returns
returns c = kernel_clash_fails
