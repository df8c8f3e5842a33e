use Rattle.std.proofs.Common.{ap, map, true, ◌∙◌}
use Rattle.sy_bodies.proofs.StepLemmas.{after_step, placed_step}
use Rattle.sy_bodies.proofs.inner.Inner.print_statement.Goals as goal
use Rattle.sy_declare.specs.Trees.{printed}
use Rattle.sy_looks.proofs.LookLemmas.{known_there}
use Rattle.sy_looks.specs.Looked.{looked}
use Rattle.sy_rules.specs.Outcome.{after, foreign_in, in_turn, known_as}
use Rattle.sy_rules.specs.declared.names.Within.TheVariants as within
use Rattle.sy_typed.specs.declared.tree.TypedStmt.TheVariants as typed

pub returns : goal.returns
returns g c =
    let there = c.begin_statement-outside.new.w in
    let e = c.args.e in
    let items = in_turn (map printed c.args.xs.now) in
    placed_step c.args.own c.args.q.namespace (λ n. after (foreign_in true within.Kernel) (known_as (λ ps. typed.Print ps e) (items n))) c.args.w.now there _ _ _ c.begin_statement-outside.ensures.there c.begin_statement-outside.ensures.outside
    (after_step (λ n. foreign_in true within.Kernel) (λ n. known_as (λ ps. typed.Print ps e) (items n)) there c.add_use_against.new.self _ _ c.add_use_against.ensures
    (known_there (λ ps. typed.Print ps e) items (record there { found = c.add_use_against.new.self }) _ _
    (c.in_ok-items.ensures ∙ ap (λ l. looked (in_turn (map printed l)) (record there { found = c.add_use_against.new.self })) c.as_slice.ensures)))
