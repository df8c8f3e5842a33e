use Rattle.sy_declare.proofs.DeclareLemmas.{plain_full}
use Rattle.sy_declare.proofs.expressions.plain_expression.Goals as goal
use Rattle.sy_rules.specs.Walk.{expr}

pub returns : goal.returns
returns g c = plain_full c.args.stands (expr c.args.a.now) _ c.args.w.now _ _ _ _ c.taken_as.ensures c.in_ok-a.ensures c.judge_plain.ensures
