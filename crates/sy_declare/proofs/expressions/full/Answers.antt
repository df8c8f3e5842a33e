use Rattle.std.proofs.Common.{ap, ◌∙◌}
use Rattle.sy_declare.proofs.FormLemmas.{full_Plain, full_Assignment}
use Rattle.sy_declare.proofs.expressions.full.Goals as goal
use Rattle.sy_declare.specs.Trees.{full}
use Rattle.sy_looks.proofs.LookLemmas.{looked_as}
use Rattle.sy_rules.specs.Walk.{expr, full_step}
use Rattle.sy_tree.specs.declared.tree.Argument.TheOpen.{FullExpression-F}

pub returns-in-Plain : goal.returns-in-Plain
returns-in-Plain g c =
    let i = c.in-Plain in
    looked_as (full c.args.f.now c.args.stands) (full_step (FullExpression-F.Plain (expr i.a)) c.args.stands) c.args.w.now _ _
    (ap (λ l. full l c.args.stands) i.is ∙ ap (λ l. l c.args.stands) (full_Plain i.a)) c.plain_expression.ensures

pub returns-in-Assignment : goal.returns-in-Assignment
returns-in-Assignment g c =
    let i = c.in-Assignment in
    looked_as (full c.args.f.now c.args.stands) (full_step (FullExpression-F.Assignment (expr i.t) i.s i.op (expr i.v)) c.args.stands) c.args.w.now _ _
    (ap (λ l. full l c.args.stands) i.is ∙ ap (λ l. l c.args.stands) (full_Assignment i.t i.s i.op i.v)) c.assigning_expression.ensures
