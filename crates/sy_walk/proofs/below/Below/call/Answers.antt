use Rattle.std.proofs.Common.{map}
use Rattle.sy_looks.proofs.LookLemmas.{chained_to}
use Rattle.sy_rules.specs.ExprTypes.{called_number}
use Rattle.sy_rules.specs.Names.{look_up}
use Rattle.sy_rules.specs.Walk.{expr, judged}
use Rattle.sy_tree.specs.declared.tree.Argument.TheOpen.{Expr-F}
use Rattle.sy_typed.specs.declared.tree.TypedNode.TheVariants as node
use Rattle.sy_walk.proofs.below.Below.call.Goals as goal
use Rattle.sy_walk.specs.Values.{values}

pub returns : goal.returns
returns g c =
    let f = c.args.f.now in
    let e = c.args.e in
    chained_to (values (map expr c.args.xs.now)) (λ q m. judged (Expr-F.Call f q.0 e) (node.Call (called_number (look_up m.entries f.text)) q.1 e) f.spot m) c.args.w.now _ _ _ _ c.in_ok-xs.ensures c.judge_call.ensures
