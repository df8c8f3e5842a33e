use Rattle.std.proofs.Common.{◌<◌, ◌^◌, refl, ap, ◌∙◌, pos, rules, arith}
use Rattle.std.specs.Int.{w128}
use Rattle.std.proofs.lemmas.Int.{to_z_pos}
use Rattle.sy_looks.specs.Looked.{looked}
use Rattle.sy_looks.proofs.leaves.judge_character.Goals as goal
use Rattle.sy_rules.specs.Layers.{SeenExpr}
use Rattle.sy_rules.specs.Literals.{character_value}
use Rattle.sy_rules.specs.Walk.{judged}
use Rattle.sy_tree.specs.declared.tree.Argument.TheOpen.{Expr-F}
use Rattle.sy_typed.specs.declared.tree.TypedNode.TheVariants as node

pub returns : goal.returns
returns c =
    let w = c.args.w.now in
    let v = c.character_value-value.result in
    let small : v < 2 ^ 8 = search rules in
    let x : SeenExpr = Expr-F.Character c.args.x.now in
    c.judge.ensures x (c.character-whole.ensures w.names) c.new-own.ensures refl refl
    ∙ ap (λ z. looked (judged x (node.Character z) c.args.x.now.spot) w) (to_z_pos w128 v (omega (arith, small)))
    ∙ ap (λ v. looked (judged x (node.Character (pos v)) c.args.x.now.spot) w) (c.character_value-value.ensures ∙ ap character_value c.items.ensures)
