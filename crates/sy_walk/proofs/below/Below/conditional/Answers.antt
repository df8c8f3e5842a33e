use Rattle.std.proofs.Common.{ap, ◌∙◌}
use Rattle.sy_looks.proofs.LookLemmas.{chained_to, found_beside}
use Rattle.sy_rules.specs.declared.names.Taken.TheVariants as takes
use Rattle.sy_rules.specs.Names.{where_taken}
use Rattle.sy_rules.specs.Outcome.{and_then}
use Rattle.sy_rules.specs.Walk.{expr, judged}
use Rattle.sy_tree.specs.declared.tree.Argument.TheOpen.{Expr-F}
use Rattle.sy_typed.specs.declared.tree.TypedNode.TheVariants as node
use Rattle.sy_walk.proofs.below.Below.conditional.Goals as goal

pub returns : goal.returns
returns g c =
    let w = c.args.w.now in
    let s = c.args.s in
    let a = where_taken takes.Nothing (expr c.args.a.now) in
    let b = where_taken takes.Nothing (expr c.args.b.now) in
    let d = where_taken takes.Nothing (expr c.args.c.now) in
    let m = c.part.new.w in
    let k = c.part-2.new.w in
    let end = c.judge_conditional.new.w in
    let r = c.judge_conditional.result in
    let three = c.in_ok-a-3 in
    let two = c.in_ok-a-2 in
    chained_to a (λ x n. and_then (b n) (λ y j. and_then (d j) (λ z. judged (Expr-F.Conditional x.0 s y.0 z.0) (node.Conditional x.1 y.1 z.1) s))) w m end three.a r
    (ap (λ p. (p.0, m)) three.ensures.ok.0 ∙ ap (λ p. (p, m)) two.ensures.ok.0 ∙ c.in_ok-a.ensures)
    (chained_to b (λ y j. and_then (d j) (λ z. judged (Expr-F.Conditional three.a.0 s y.0 z.0) (node.Conditional three.a.1 y.1 z.1) s)) m k end three.b r
    (ap (λ p. (p.1, k)) three.ensures.ok.0 ∙ found_beside b m k c.part-2.result two.b two.ensures.ok.1 c.part-2.ensures)
    (chained_to d (λ z. judged (Expr-F.Conditional three.a.0 s three.b.0 z.0) (node.Conditional three.a.1 three.b.1 z.1) s) k c.part-3.new.w end three.c r
    (found_beside d k c.part-3.new.w c.part-3.result three.c three.ensures.ok.1 c.part-3.ensures)
    c.judge_conditional.ensures))
