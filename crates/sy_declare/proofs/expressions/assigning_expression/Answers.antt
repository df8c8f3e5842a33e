use Rattle.std.proofs.Common.{ap, ◌∙◌}
use Rattle.sy_declare.proofs.DeclareLemmas.{assigning_full}
use Rattle.sy_declare.proofs.expressions.assigning_expression.Goals as goal
use Rattle.sy_looks.proofs.LookLemmas.{found_beside}
use Rattle.sy_rules.specs.Walk.{expr, part}

pub returns : goal.returns
returns g c =
    let m = c.part.new.w in
    let two = c.in_ok-t-2 in
    assigning_full c.args.stands (expr c.args.t.now) (expr c.args.v.now) c.args.s c.args.op c.taken_as.result c.args.w.now m c.part-2.new.w _ two.t two.v _
    c.taken_as.ensures
    (ap (λ p. (p, m)) two.ensures.ok.0 ∙ c.in_ok-t.ensures)
    (found_beside (part (expr c.args.v.now)) m c.part-2.new.w c.part-2.result two.v two.ensures.ok.1 c.part-2.ensures)
    c.judge_assignment.ensures
