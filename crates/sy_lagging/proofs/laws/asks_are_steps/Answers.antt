use Rattle.sy_lagging.proofs.StepLemmas.{asks-stand}
use Rattle.sy_lagging.proofs.laws.asks_are_steps.Goals as goal

pub returns : goal.returns
returns c p order s t x h o r k m g e l = asks-stand p order s t x h (record { orderly = o; ready = r; clear = k }) m g e l
