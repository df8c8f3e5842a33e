use Rattle.std.proofs.Common.{refl, ap, ◌∙◌}
use Rattle.sy_looks.specs.Looked.{looked}
use Rattle.sy_looks.proofs.leaves.judge_function_object.Goals as goal
use Rattle.sy_rules.specs.Layers.{SeenExpr}
use Rattle.sy_rules.specs.Walk.{judged}
use Rattle.sy_tree.specs.declared.tree.Argument.TheOpen.{Expr-F}
use Rattle.sy_typed.specs.declared.tree.TypedNode.TheVariants as node

pub returns : goal.returns
returns c =
    let w = c.args.w.now in
    let x : SeenExpr = Expr-F.FunctionObject c.args.q c.args.f c.args.t c.args.b c.args.e in
    c.judge.ensures x (c.function_object-whole.ensures w.names) c.new-own.ensures refl refl
    ∙ ap (λ k. looked (judged x (node.FunctionObject c.args.f k c.args.e) c.args.q.name) w) c.kind_written-kind.ensures
