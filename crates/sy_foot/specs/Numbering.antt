-- The numbers of a command's cells: first those of its buffers, then those of its local lists.
use Rattle.std.specs.Prelude.{◌≡◌, ℕ, true, if◌then◌else◌, nat_lt, ◌+◌, ◌-◌, Option, option_map}
use Rattle.sy_access.specs.Needs.{has_cell}
use Rattle.sy_access.specs.declared.access.Need.{Need}
use Rattle.sy_access.specs.declared.cells.Cell.{Cell}
use Rattle.sy_access.specs.declared.cells.Cell.TheVariants.{Buffer, Local}
use Rattle.sy_foot.specs.declared.numbering.CellNumbers.{CellNumbers}
use Rattle.sy_foot.specs.Numbered.{buffer_cell, local_cell}
use Rattle.sy_foot.specs.Runs.{element_at, number_in}

-- the number of a cell
abbrev pub number_at : CellNumbers → Cell → Option ℕ
number_at m (Buffer root i) = number_in 0 m.buffers.items root i
number_at m (Local slot i) = number_in m.shared m.locals.items slot i

-- how many cells have numbers, and how many of these are cells of buffers
abbrev pub cell_total : CellNumbers → ℕ
cell_total m = m.count

abbrev pub shared_total : CellNumbers → ℕ
shared_total m = m.shared

-- the cell of a number
abbrev pub cell_at : CellNumbers → ℕ → Option Cell
cell_at m n =
    if nat_lt n m.shared then buffer_cell (element_at m.buffers.items n) else local_cell (element_at m.locals.items (n - m.shared))

-- the cells of a need are numbered from that of its first one on
abbrev pub IsOneRun : CellNumbers → Need → Type 0
IsOneRun m n = (i : ℕ) → has_cell n n.buffer i ≡ true → number_at m (Buffer n.buffer i) ≡ option_map (λ b. b + (i - n.from)) (number_at m (Buffer n.buffer n.from))
