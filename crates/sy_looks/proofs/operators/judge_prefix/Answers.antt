use Rattle.std.proofs.Common.{refl, ap, ◌∙◌}
use Rattle.sy_findings.specs.Told.{told}
use Rattle.sy_looks.specs.Looked.{looked}
use Rattle.sy_looks.proofs.operators.judge_prefix.Goals as goal
use Rattle.sy_rules.specs.ExprRules.{faults}
use Rattle.sy_rules.specs.Layers.{SeenExpr}
use Rattle.sy_rules.specs.Walk.{judged}
use Rattle.sy_tree.specs.declared.tree.Argument.TheOpen.{Expr-F}
use Rattle.sy_typed.specs.declared.tree.TypedNode.TheVariants as node

pub returns : goal.returns
returns c =
    let w = c.args.w.now in
    let x : SeenExpr = Expr-F.Prefix c.args.s c.args.step c.args.a.0 in
    c.judge.ensures x (c.prefix-whole.ensures.seen w.names) (c.prefix-whole.ensures.found w.names ∙ ap (λ f. told f (faults w.names x)) c.new-own.ensures) refl refl
    ∙ ap (λ y. looked (judged x (node.Prefix c.args.step y) c.args.s) w) c.in_ok-tree.ensures
