use Rattle.std.proofs.Common.{refl, ap, ◌∙◌}
use Rattle.sy_looks.specs.Looked.{looked}
use Rattle.sy_looks.proofs.operators.judge_parenthesized.Goals as goal
use Rattle.sy_rules.specs.Layers.{SeenExpr}
use Rattle.sy_rules.specs.Walk.{judged}
use Rattle.sy_tree.specs.declared.tree.Argument.TheOpen.{Expr-F}
use Rattle.sy_typed.specs.declared.tree.TypedNode.TheVariants as node

pub returns : goal.returns
returns c =
    let w = c.args.w.now in
    let x : SeenExpr = Expr-F.Parenthesized c.args.s c.args.a.0 c.args.e in
    c.judge.ensures x (c.parenthesized-whole.ensures w.names) c.new-own.ensures refl refl
    ∙ ap (λ y. looked (judged x (node.Parenthesized y c.args.e) c.args.s) w) c.in_ok-tree.ensures
