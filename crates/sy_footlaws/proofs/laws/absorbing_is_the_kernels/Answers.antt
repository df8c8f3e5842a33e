use Rattle.sy_footlaws.proofs.KernelLemmas.{absorbs-calm, absorbs-clash, kernel-log, least-told}
use Rattle.sy_footlaws.proofs.laws.absorbing_is_the_kernels.Goals as goal

pub returns : goal.returns
returns c = record { calm = absorbs-calm; clash = absorbs-clash; least = least-told; log = kernel-log }
