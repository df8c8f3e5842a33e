use Rattle.std.proofs.Common.{refl, ap, ◌∙◌}
use Rattle.sy_findings.specs.Told.{told}
use Rattle.sy_looks.specs.Looked.{looked}
use Rattle.sy_looks.proofs.library.judge_construct.Goals as goal
use Rattle.sy_rules.specs.ExprRules.{faults}
use Rattle.sy_rules.specs.Layers.{SeenExpr}
use Rattle.sy_rules.specs.Walk.{judged}
use Rattle.sy_tree.specs.declared.tree.Argument.TheOpen.{Expr-F}
use Rattle.sy_typed.specs.declared.tree.TypedNode.TheVariants as node

pub returns : goal.returns
returns c =
    let w = c.args.w.now in
    let t = c.args.t.now in
    let x : SeenExpr = Expr-F.Construct t c.args.b c.args.s c.as_slice.result.now c.args.e in
    c.judge_foreign.ensures x c.construct-whole.ensures.seen (c.construct-whole.ensures.found ∙ ap (λ f. told f (faults w.names x)) c.new-own.ensures) (c.foreign_object-foreign.ensures w.names c.args.b c.args.s c.args.e c.as_slice.result.now) refl
    ∙ ap (λ xs. looked (judged (Expr-F.Construct t c.args.b c.args.s xs c.args.e) (node.Construct c.args.xs.1 c.args.e) c.type_word.result) w) c.as_slice.ensures
    ∙ ap (λ s. looked (judged (Expr-F.Construct t c.args.b c.args.s c.args.xs.0 c.args.e) (node.Construct c.args.xs.1 c.args.e) s) w) c.type_word.ensures
