use Rattle.std.proofs.Common.{List, ap, slice_index_or, slice_set, ◌∙◌}
use Rattle.sy_meaning.specs.declared.runs.Row.{Row}
use Rattle.sy_state.proofs.PlaceLemmas.{written_over}
use Rattle.sy_state.proofs.rows.put_values.Goals as goal

pub returns : goal.returns
returns c =
    ap (λ (rows : List Row). record c.args.world.now { rows = rows })
    (written_over c.args.world.now.rows _ _ c.args.v _ _ c.exchange-held.ensures.kept c.set.ensures
    ∙ ap (λ (row : Row). slice_set c.args.world.now.rows c.args.v (record row { values = c.args.values }))
    (c.exchange-held.ensures.taken ∙ ap (λ (row : Row). slice_index_or c.args.world.now.rows c.args.v row) c.no_row.ensures))
