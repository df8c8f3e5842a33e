-- Vectors at their indexes.
use Rattle.std.proofs.Common.{◌≡◌, ℕ, List, ap}
use Rattle.std.specs.Prelude.{None, slice_get, slice_index_or}
use Rattle.sy_meaning.specs.Frame.{no_row}
use Rattle.sy_meaning.specs.declared.runs.Row.{Row}
use Rattle.sy_state.proofs.PlaceLemmas.{not_there}

pub no_vector : {B : Type 0} (f : Row → B) (rows : List Row) (v : ℕ) → None ≡ slice_get rows v → f no_row ≡ f (slice_index_or rows v no_row)
no_vector f rows v e = ap f (not_there rows v no_row e)
