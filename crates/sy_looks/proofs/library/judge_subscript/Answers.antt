use Rattle.std.proofs.Common.{refl, ap, ◌∙◌}
use Rattle.sy_findings.specs.Told.{told}
use Rattle.sy_looks.specs.Looked.{looked}
use Rattle.sy_looks.proofs.library.judge_subscript.Goals as goal
use Rattle.sy_rules.specs.ExprRules.{faults}
use Rattle.sy_rules.specs.Layers.{SeenExpr}
use Rattle.sy_rules.specs.Walk.{judged}
use Rattle.sy_tree.specs.declared.tree.Argument.TheOpen.{Expr-F}
use Rattle.sy_typed.specs.declared.tree.TypedNode.TheVariants as node

pub returns : goal.returns
returns c =
    let w = c.args.w.now in
    let x : SeenExpr = Expr-F.Subscript c.args.a.0 c.args.s c.args.i.0 c.args.e in
    c.judge_foreign.ensures x c.subscript-whole.ensures.seen (c.subscript-whole.ensures.found ∙ ap (λ f. told f (faults w.names x)) c.new-own.ensures) (c.foreign_index-foreign.ensures w.names c.args.s c.args.e c.args.i.0) refl
    ∙ ap (λ y. looked (judged x (node.Subscript y.0 y.1 c.args.e) c.args.s) w) c.in_ok-object.ensures
