use Rattle.std.proofs.Common.{◌≡◌, ◌++◌, [], ◌∷◌, List, ap, slice_index_or, slice_set, ◌∙◌, ℤ}
use Rattle.std.specs.Int.{w128}
use Rattle.std.proofs.lemmas.Int.{to_z-of_z}
use Rattle.sy_meaning.specs.declared.runs.Row.{Row}
use Rattle.sy_meaning.specs.Words.{Object}
use Rattle.sy_state.proofs.PlaceLemmas.{written_over}
use Rattle.sy_library.proofs.vectors.put_last.Goals as goal

pub returns : goal.returns
returns c =
    let made : c.in_ok-with_last.field-0 ≡ c.exchange-held.result.values ++ c.args.num ∷ [] =
    c.in_ok-with_last.ensures ∙ ap (λ (z : ℤ). c.exchange-held.result.values ++ z ∷ []) (to_z-of_z w128 c.args.num c.ranges.num) in
    ap (λ (rows : List Row). record c.args.world.now { rows = rows })
    (written_over c.args.world.now.rows _ _ c.args.v _ _ c.exchange-held.ensures.kept c.set.ensures
    ∙ ap (λ (values : Object). slice_set c.args.world.now.rows c.args.v (record c.exchange-held.result { values = values })) made
    ∙ ap (λ (row : Row). slice_set c.args.world.now.rows c.args.v (record row { values = row.values ++ c.args.num ∷ [] }))
    (c.exchange-held.ensures.taken ∙ ap (λ (row : Row). slice_index_or c.args.world.now.rows c.args.v row) c.no_row.ensures))
