use Rattle.std.proofs.Common.{true}
use Rattle.sy_bodies.proofs.StepLemmas.{set_step}
use Rattle.sy_bodies.proofs.inner.Inner.looped_body.Goals as goal
use Rattle.sy_rules.specs.Walk.{body, stmt}

pub returns : goal.returns
returns g c = set_step (λ s. record s { in_loop = true }) (body (stmt c.args.s.now)) c.args.w.now _ _ _ _ _ _ c.setting-setting.ensures c.in_a_loop.ensures c.set.ensures c.in_ok-tree.ensures c.set-2.ensures
