use Rattle.std.proofs.Common.{ap, ◌∙◌}
use Rattle.sy_bodies.proofs.RangedLemmas.{ranged_looked}
use Rattle.sy_bodies.proofs.inner.Inner.range_for.Goals as goal
use Rattle.sy_rules.specs.Names.{look_up}
use Rattle.sy_rules.specs.Walk.{stmt}

pub returns : goal.returns
returns g c =
    let w = c.args.w.now in
    let e = c.args.e in
    ranged_looked c.args.s e.is_const e.of e.by_reference c.args.x.now c.args.v.now (stmt c.args.a.now) w c.find-named.result c.add_head.new.found c.declare_element.new.names _ _ _ _
    (c.find-named.ensures ∙ ap (look_up w.names.entries) c.items.ensures) c.in_ok-add_head.ensures c.in_ok-element.ensures.names c.in_ok-element.ensures.value c.ranged_variable-whole.ensures c.in_ok-inside.ensures
