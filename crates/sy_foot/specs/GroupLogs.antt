-- What groups wrote to the cells that they share, in the order of the cells' first writes.
use Rattle.std.specs.Prelude.{◌≡◌, ℕ, ℤ, true, map, List, [], ◌∷◌, Option, Some, None, slice_get}
use Rattle.sy_access.specs.declared.cells.Cell.{Cell}
use Rattle.sy_foot.specs.declared.earlier.State.{State}
use Rattle.sy_foot.specs.declared.earlier.State.TheVariants.{Written}
use Rattle.sy_foot.specs.declared.numbering.CellNumbers.{CellNumbers}
use Rattle.sy_foot.specs.Numbering.{cell_at}
use Rattle.sy_foot.specs.Writes.{are_distinct, is_listed}

abbrev pub cells_in : List (ℕ × ℤ) → List ℕ
cells_in log = map (λ w. w.0) log

-- each cell is there once, and was written
pub record IsGroupLog (states : List State) (log : List (ℕ × ℤ)) : Type 0 where
  pub once : are_distinct (cells_in log) ≡ true
  pub wrote : (c : ℕ) → is_listed c (cells_in log) ≡ true → slice_get states c ≡ Some Written

abbrev pub with_cell : Option Cell → ℤ → List (Cell × ℤ) → List (Cell × ℤ)
with_cell None z log = log
with_cell (Some c) z log = (c, z) ∷ log

-- the same with cells in place of their numbers
abbrev pub cell_log : CellNumbers → List (ℕ × ℤ) → List (Cell × ℤ)
cell_log m [] = []
cell_log m (w ∷ ws) = with_cell (cell_at m w.0) w.1 (cell_log m ws)
