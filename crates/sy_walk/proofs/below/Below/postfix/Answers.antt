use Rattle.sy_looks.proofs.LookLemmas.{chained_to}
use Rattle.sy_rules.specs.declared.names.Taken.TheVariants as takes
use Rattle.sy_rules.specs.Names.{where_taken}
use Rattle.sy_rules.specs.Walk.{expr, judged}
use Rattle.sy_tree.specs.declared.tree.Argument.TheOpen.{Expr-F}
use Rattle.sy_typed.specs.declared.tree.TypedNode.TheVariants as node
use Rattle.sy_walk.proofs.below.Below.postfix.Goals as goal

pub returns : goal.returns
returns g c = chained_to (where_taken takes.Nothing (expr c.args.a.now)) (λ p. judged (Expr-F.Postfix p.0 c.args.s c.args.step) (node.Postfix p.1 c.args.step) (c.args.s)) c.args.w.now _ _ _ _ c.in_ok-a.ensures c.judge_postfix.ensures
