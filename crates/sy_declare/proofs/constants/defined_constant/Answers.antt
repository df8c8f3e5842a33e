use Rattle.std.proofs.Common.{Some}
use Rattle.sy_declare.proofs.constants.defined_constant.Goals as goal
use Rattle.sy_looks.proofs.LookLemmas.{chained_to}
use Rattle.sy_rules.specs.Units.{constant_as}
use Rattle.sy_rules.specs.Walk.{expr, part}

pub returns : goal.returns
returns g c = chained_to (part (expr c.args.a.now)) (λ p. constant_as c.args.c.now c.args.x.now (Some (p.0, c.args.equal)) p.1) c.args.w.now _ _ (c.in_ok-seen.seen, c.in_ok-seen.tree) _ c.in_ok-seen.ensures c.declare_constant.ensures
