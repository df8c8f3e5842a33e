use Rattle.std.proofs.Common.{ap}
use Rattle.sy_bodies.proofs.StepLemmas.{maybe_none, maybe_some}
use Rattle.sy_bodies.proofs.inner.Inner.maybe_part.Goals as goal
use Rattle.sy_bodies.specs.Trees.{maybe_expr}
use Rattle.sy_rules.specs.Walk.{expr, part}

pub returns-in-None : goal.returns-in-None
returns-in-None g c = maybe_none part (maybe_expr c.args.a.now) c.args.w.now (ap maybe_expr c.in-None.is)

pub returns-in_ok-found-in-Some : goal.returns-in_ok-found-in-Some
returns-in_ok-found-in-Some g c = maybe_some part (maybe_expr c.args.a.now) (expr c.in-Some.a) c.args.w.now _ _ (ap maybe_expr c.in-Some.is) c.in_ok-found-in-Some.ensures
