use Rattle.std.proofs.Common.{◌≡◌, rules}
use Rattle.std.specs.Prelude.{None, slice_get}
use Rattle.sy_meaning.specs.declared.runs.Row.{Row}
use Rattle.sy_state.proofs.RowLemmas.{no_vector}
use Rattle.sy_state.proofs.rows.row_values.Goals as goal

pub returns-in-None : goal.returns-in-None
returns-in-None c =
    let none : None ≡ slice_get c.args.world.now.rows c.args.v = search rules in
    no_vector (λ (row : Row). row.values) c.args.world.now.rows c.args.v none
