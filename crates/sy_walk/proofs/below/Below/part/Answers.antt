use Rattle.sy_looks.proofs.LookLemmas.{taken_step}
use Rattle.sy_rules.specs.Walk.{expr}
use Rattle.sy_walk.proofs.below.Below.part.Goals as goal

pub returns : goal.returns
returns g c = taken_step c.args.taken (expr c.args.e.now) c.args.w.now _ _ _ _ _ _ c.setting-setting.ensures c.with_taken.ensures c.set.ensures c.in_ok-found.ensures c.set-2.ensures
