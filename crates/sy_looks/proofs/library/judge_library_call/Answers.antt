use Rattle.std.proofs.Common.{refl, ap, ◌∙◌}
use Rattle.sy_findings.specs.Told.{told}
use Rattle.sy_looks.specs.Looked.{looked}
use Rattle.sy_looks.proofs.library.judge_library_call.Goals as goal
use Rattle.sy_rules.specs.ExprRules.{faults}
use Rattle.sy_rules.specs.Layers.{SeenExpr}
use Rattle.sy_rules.specs.Walk.{judged}
use Rattle.sy_tree.specs.declared.tree.Argument.TheOpen.{Expr-F}
use Rattle.sy_typed.specs.declared.tree.TypedNode.TheVariants as node

pub returns : goal.returns
returns c =
    let w = c.args.w.now in
    let x : SeenExpr = Expr-F.LibraryCall c.args.q c.args.f c.as_slice.result.now c.args.e in
    c.judge_foreign.ensures x c.library_call-whole.ensures.seen (c.library_call-whole.ensures.found ∙ ap (λ f. told f (faults w.names x)) c.new-own.ensures) (c.foreign_function-foreign.ensures w.names c.args.q c.as_slice.result.now c.args.e) refl
    ∙ ap (λ xs. looked (judged (Expr-F.LibraryCall c.args.q c.args.f xs c.args.e) (node.LibraryCall c.args.f c.args.xs.1 c.args.e) c.args.q.name) w) c.as_slice.ensures
