use Rattle.std.proofs.Common.{ap, ◌∙◌}
use Rattle.sy_looks.proofs.LookLemmas.{chained_to, found_beside}
use Rattle.sy_rules.specs.declared.names.Taken.TheVariants as takes
use Rattle.sy_rules.specs.Names.{where_taken}
use Rattle.sy_rules.specs.Outcome.{and_then}
use Rattle.sy_rules.specs.Walk.{expr, judged}
use Rattle.sy_tree.specs.declared.tree.Argument.TheOpen.{Expr-F}
use Rattle.sy_typed.specs.declared.tree.TypedNode.TheVariants as node
use Rattle.sy_walk.proofs.below.Below.subscript.Goals as goal

pub returns : goal.returns
returns g c =
    let w = c.args.w.now in
    let s = c.args.s in
    let e = c.args.e in
    let a = where_taken takes.Nothing (expr c.args.a.now) in
    let i = where_taken takes.Nothing (expr c.args.i.now) in
    chained_to a (λ p n. and_then (i n) (λ q. judged (Expr-F.Subscript p.0 s q.0 e) (node.Subscript p.1 q.1 e) s)) w c.part.new.w c.judge_subscript.new.w c.in_ok-a-2.a c.judge_subscript.result
    (ap (λ p. (p, c.part.new.w)) c.in_ok-a-2.ensures.ok.0 ∙ c.in_ok-a.ensures)
    (chained_to i (λ q. judged (Expr-F.Subscript c.in_ok-a-2.a.0 s q.0 e) (node.Subscript c.in_ok-a-2.a.1 q.1 e) s) c.part.new.w c.part-2.new.w c.judge_subscript.new.w c.in_ok-a-2.i c.judge_subscript.result
    (found_beside i c.part.new.w c.part-2.new.w c.part-2.result c.in_ok-a-2.i c.in_ok-a-2.ensures.ok.1 c.part-2.ensures)
    c.judge_subscript.ensures)
