use Rattle.sy_footlaws.proofs.StandingLemmas.{begins, item-ends, phase-ends, reads-on, writes-on}
use Rattle.sy_footlaws.proofs.laws.a_footprint_stands_for_its_steps.Goals as goal

pub returns : goal.returns
returns c = record { begins = begins; read = reads-on; write = writes-on; item = item-ends; phase = phase-ends }
