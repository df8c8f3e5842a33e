use Rattle.std.proofs.Common.{refl, ap, ◌∙◌}
use Rattle.sy_findings.specs.Told.{told}
use Rattle.sy_looks.specs.Looked.{looked}
use Rattle.sy_looks.proofs.library.judge_group_barrier.Goals as goal
use Rattle.sy_rules.specs.ExprRules.{faults}
use Rattle.sy_rules.specs.Layers.{SeenExpr}
use Rattle.sy_rules.specs.Walk.{judged}
use Rattle.sy_tree.specs.declared.tree.Argument.TheOpen.{Expr-F}
use Rattle.sy_typed.specs.declared.tree.TypedNode.TheVariants as node

pub returns : goal.returns
returns c =
    let w = c.args.w.now in
    let x : SeenExpr = Expr-F.GroupBarrier c.args.q c.args.a.0 c.args.e in
    c.judge_foreign.ensures x c.group_barrier-whole.ensures.seen (c.group_barrier-whole.ensures.found ∙ ap (λ f. told f (faults w.names x)) c.new-own.ensures) (c.foreign_barrier-foreign.ensures w.names c.args.q c.args.a.0 c.args.e) refl
    ∙ ap (λ y. looked (judged x (node.GroupBarrier y c.args.e) c.args.q.name) w) c.in_ok-tree.ensures
