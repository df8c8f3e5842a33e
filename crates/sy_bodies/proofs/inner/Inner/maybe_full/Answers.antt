use Rattle.std.proofs.Common.{ap, false}
use Rattle.sy_bodies.proofs.StepLemmas.{maybe_none, maybe_some}
use Rattle.sy_bodies.proofs.inner.Inner.maybe_full.Goals as goal
use Rattle.sy_bodies.specs.Trees.{maybe_full}
use Rattle.sy_declare.specs.Trees.{full}

pub returns-in-None : goal.returns-in-None
returns-in-None g c = maybe_none (λ f. f false) (maybe_full c.args.f.now) c.args.w.now (ap maybe_full c.in-None.is)

pub returns-in_ok-found-in-Some : goal.returns-in_ok-found-in-Some
returns-in_ok-found-in-Some g c = maybe_some (λ f. f false) (maybe_full c.args.f.now) (full c.in-Some.f) c.args.w.now _ _ (ap maybe_full c.in-Some.is) c.in_ok-found-in-Some.ensures
