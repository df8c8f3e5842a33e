use Rattle.sy_settling.proofs.DeferredLemmas.{over-told, step-deferred}
use Rattle.sy_settling.proofs.laws.deferred_effects_keep_step.Goals as goal

pub returns-clause-heard : goal.returns-clause-heard
returns-clause-heard c = over-told

pub returns-clause-step : goal.returns-clause-step
returns-clause-step c = step-deferred
