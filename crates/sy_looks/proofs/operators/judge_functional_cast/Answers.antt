use Rattle.std.proofs.Common.{refl, ap, ◌∙◌}
use Rattle.sy_findings.specs.Told.{told}
use Rattle.sy_looks.specs.Looked.{looked}
use Rattle.sy_looks.proofs.operators.judge_functional_cast.Goals as goal
use Rattle.sy_rules.specs.ExprRules.{faults}
use Rattle.sy_rules.specs.Layers.{SeenExpr}
use Rattle.sy_rules.specs.Walk.{judged}
use Rattle.sy_tree.specs.declared.tree.Argument.TheOpen.{Expr-F}
use Rattle.sy_typed.specs.declared.tree.TypedNode.TheVariants as node

pub returns : goal.returns
returns c =
    let w = c.args.w.now in
    let x : SeenExpr = Expr-F.FunctionalCast c.args.t c.args.a.0 c.args.e in
    c.judge.ensures x (c.functional_cast-whole.ensures.seen w.names) (c.functional_cast-whole.ensures.found w.names ∙ ap (λ f. told f (faults w.names x)) c.new-own.ensures) refl refl
    ∙ ap (λ y. looked (judged x (node.FunctionalCast y c.args.e) c.args.t.spot) w) c.in_ok-tree.ensures
