use Rattle.std.proofs.Common.{refl, ap, ◌∙◌}
use Rattle.sy_findings.specs.Told.{told}
use Rattle.sy_looks.specs.Looked.{looked}
use Rattle.sy_looks.proofs.leaves.judge_error_code.Goals as goal
use Rattle.sy_rules.specs.ExprRules.{faults}
use Rattle.sy_rules.specs.Layers.{SeenExpr}
use Rattle.sy_rules.specs.Walk.{judged, error_or_runtime}
use Rattle.sy_tree.specs.declared.tree.Argument.TheOpen.{Expr-F}
use Rattle.sy_typed.specs.declared.tree.TypedNode.TheVariants as node

pub returns : goal.returns
returns c =
    let w = c.args.w.now in
    let x : SeenExpr = Expr-F.ErrorCode c.args.q c.args.x.now in
    c.judge.ensures x (c.error_code-whole.ensures.seen) (c.error_code-whole.ensures.found ∙ ap (λ f. told f (faults w.names x)) c.new-own.ensures) refl refl
    ∙ ap (λ k. looked (judged x (node.ErrorCode k c.args.x.now.spot) c.args.q.name) w) (c.error_or_runtime-error.ensures ∙ ap error_or_runtime c.items.ensures)
