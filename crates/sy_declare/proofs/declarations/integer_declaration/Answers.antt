use Rattle.std.proofs.Common.{map, ap, ◌∙◌}
use Rattle.sy_declare.proofs.declarations.integer_declaration.Goals as goal
use Rattle.sy_looks.proofs.LookLemmas.{known_there}
use Rattle.sy_looks.specs.Looked.{looked}
use Rattle.sy_rules.specs.declared.statements.Shared.TheVariants as sharing
use Rattle.sy_rules.specs.Walk.{declarator_of, declarators, is_constexpr, start_of}
use Rattle.sy_typed.specs.declared.tree.TypedDeclaration.TheVariants as declaration

pub returns : goal.returns
returns g c =
    let w = c.args.w.now in
    let s = c.args.c in
    let t = c.args.t in
    let xs = map declarator_of c.args.xs.now in
    let k = c.declarators.new.w in
    let trees = c.in_ok-trees.trees in
    ap (λ b. ((b, declaration.Values trees c.args.e), k)) c.start_of.ensures
    ∙ known_there (λ l. (start_of s t, declaration.Values l c.args.e)) (declarators (is_constexpr s) s t sharing.Unknown xs) w k trees
    (c.in_ok-trees.ensures ∙ ap (λ b. looked (declarators b s t sharing.Unknown xs) w) c.is_constexpr.ensures)
