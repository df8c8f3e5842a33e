use Rattle.std.proofs.Common.{refl, ap, ◌∙◌, rules, SFits}
use Rattle.std.specs.Int.{w128}
use Rattle.std.proofs.lemmas.Int.{to_z-of_z}
use Rattle.sy_findings.specs.Told.{told}
use Rattle.sy_looks.specs.Looked.{looked}
use Rattle.sy_looks.proofs.leaves.judge_integer.Goals as goal
use Rattle.sy_rules.specs.Constants.{literal_value, number_in}
use Rattle.sy_rules.specs.ExprRules.{faults}
use Rattle.sy_rules.specs.Layers.{SeenExpr}
use Rattle.sy_rules.specs.Walk.{judged}
use Rattle.sy_tree.specs.declared.tree.Argument.TheOpen.{Expr-F}
use Rattle.sy_typed.specs.declared.tree.TypedNode.TheVariants as node

pub returns : goal.returns
returns c =
    let w = c.args.w.now in
    let v = c.number_in-value.result in
    let fits : SFits w128 v = search rules in
    let x : SeenExpr = Expr-F.Integer c.args.x.now in
    c.judge.ensures x (c.integer-whole.ensures.seen w.names) (c.integer-whole.ensures.found w.names ∙ ap (λ f. told f (faults w.names x)) c.new-own.ensures) refl refl
    ∙ ap (λ z. looked (judged x (node.Integer z) c.args.x.now.spot) w) (to_z-of_z w128 v fits)
    ∙ ap (λ v. looked (judged x (node.Integer v) c.args.x.now.spot) w) (c.number_in-value.ensures ∙ ap number_in (c.literal_value.ensures ∙ ap literal_value c.items.ensures))
