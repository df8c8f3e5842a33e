use Rattle.sy_footlaws.proofs.KernelLemmas.{both-steps, no-steps, phase-steps}
use Rattle.sy_footlaws.proofs.laws.a_kernel_has_the_groups_steps.Goals as goal

pub returns : goal.returns
returns c = record { begins = no-steps; phase = phase-steps; group = both-steps }
