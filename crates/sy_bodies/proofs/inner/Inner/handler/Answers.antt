use Rattle.std.proofs.Common.{Some, ap, true, ◌∙◌}
use Rattle.sy_bodies.proofs.StepLemmas.{declared_step, scoped_step}
use Rattle.sy_bodies.proofs.inner.Inner.handler.Goals as goal
use Rattle.sy_rules.specs.ExprTypes.{variable}
use Rattle.sy_rules.specs.Names.{declared_variable}
use Rattle.sy_rules.specs.Walk.{block, handler}
use Rattle.sy_typed.specs.declared.things.Thing.TheVariants as thing

pub returns : goal.returns
returns g c =
    let n = c.enter.new.self in
    let x = c.args.x.now in
    scoped_step (handler x (block c.args.b.now)) c.args.w.now n c.sub_block.new.w (c.in_ok-caught.caught, c.in_ok-tree.tree) _ c.in_ok-enter.ensures.ok
    (ap (λ v. ((v, c.in_ok-tree.tree), c.sub_block.new.w)) c.in_ok-caught.ensures.value
    ∙ declared_step (λ n y. (variable n.next (Some thing.Exception) x.spot, y)) (declared_variable x (Some thing.Exception) true) (block c.args.b.now) (record c.args.w.now { names = n }) c.declare_exception.new.names c.sub_block.new.w c.in_ok-tree.tree c.in_ok-caught.ensures.names c.in_ok-tree.ensures)
    c.leave.ensures
