use Rattle.std.proofs.Common.{ap, ◌∙◌}
use Rattle.sy_looks.proofs.LookLemmas.{chained_to, with_known}
use Rattle.sy_rules.specs.Names.{where_taken}
use Rattle.sy_rules.specs.Walk.{expr, judged, one_part, taken_inside}
use Rattle.sy_tree.specs.declared.tree.Argument.TheOpen.{Expr-F}
use Rattle.sy_typed.specs.declared.tree.TypedNode.TheVariants as node
use Rattle.sy_walk.proofs.below.Below.parenthesized.Goals as goal

pub returns : goal.returns
returns g c =
    let w = c.args.w.now in
    let a = expr c.args.a.now in
    let s = c.args.s in
    let e = c.args.e in
    with_known (λ t. one_part t a (λ a. Expr-F.Parenthesized s a e) (λ a. node.Parenthesized a e) s) (λ n. taken_inside n.setting.taken) w c.judge_parenthesized.new.w c.judge_parenthesized.result c.taken_inside-taken.result
    (c.taken_inside-taken.ensures ∙ ap (λ z. taken_inside z.taken) c.setting.ensures)
    (chained_to (where_taken c.taken_inside-taken.result a) (λ p. judged (Expr-F.Parenthesized s p.0 e) (node.Parenthesized p.1 e) s) w _ c.judge_parenthesized.new.w _ c.judge_parenthesized.result c.in_ok-a.ensures c.judge_parenthesized.ensures)
