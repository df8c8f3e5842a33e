use Rattle.std.proofs.Common.{◌∙◌, refl, Some}
use Rattle.sy_check.proofs.ExpressionLemmas.{told_of_one}
use Rattle.sy_check.proofs.expressions.expression_looked_at.Goals as goal
use Rattle.sy_looks.specs.declared.walk.Walk.{Walk}
use Rattle.sy_rules.specs.Walk.{expr}

pub returns-clause-first : goal.returns-clause-first
returns-clause-first c =
    let v = c.setting-within.result in
    let w : Walk = record { alloc = c.args.alloc; names = c.args.names; found = c.new.result; place = Some (record { within = v.within; statement = c.args.statement }) } in
    c.first.ensures
    ∙ told_of_one (expr c.args.e.now) w c.walk_expr.new.w c.in_ok-part.part c.args.statement v c.in_ok-part.ensures c.setting-within.ensures c.new.ensures refl
