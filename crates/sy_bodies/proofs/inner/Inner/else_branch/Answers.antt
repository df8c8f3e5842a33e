use Rattle.std.proofs.Common.{ap}
use Rattle.sy_bodies.proofs.StepLemmas.{maybe_none, maybe_some}
use Rattle.sy_bodies.proofs.inner.Inner.else_branch.Goals as goal
use Rattle.sy_bodies.specs.Trees.{maybe_stmt}
use Rattle.sy_rules.specs.Walk.{body, stmt}

pub returns-in-None : goal.returns-in-None
returns-in-None g c = maybe_none body (maybe_stmt c.args.s.now) c.args.w.now (ap maybe_stmt c.in-None.is)

pub returns-in_ok-found-in-Some : goal.returns-in_ok-found-in-Some
returns-in_ok-found-in-Some g c = maybe_some body (maybe_stmt c.args.s.now) (stmt c.in-Some.s) c.args.w.now _ _ (ap maybe_stmt c.in-Some.is) c.in_ok-found-in-Some.ensures
