-- Which cells of a command are numbered, and what the numbers rest on.
use Rattle.std.specs.Prelude.{◌≡◌, ℕ, Bool, false, nat_lt, ◌<◌, ◌+◌, ◌-◌, ◌^◌, ◌⊎◌, List, [], Option, Some, None, length, option_map, slice_get}
use Rattle.std.specs.List.{list_any}
use Rattle.sy_access.specs.Needs.{has_cell}
use Rattle.sy_access.specs.declared.access.Need.{Need}
use Rattle.sy_access.specs.declared.cells.Cell.{Cell}
use Rattle.sy_access.specs.declared.cells.Cell.TheVariants.{Buffer, Local}
use Rattle.sy_foot.specs.declared.runs.Run.{Run}
use Rattle.sy_foot.specs.Runs.{AreApart, local_runs, runs_with, total}

-- the slot is there and has the element
abbrev pub is_below : ℕ → Option ℕ → Bool
is_below i None = false
is_below i (Some n) = nat_lt i n

-- the cell is one of the needs' or of the local lists'
abbrev pub is_named : List Need → List ℕ → Cell → Bool
is_named needs lengths (Buffer root i) = list_any (λ n. has_cell n root i) needs
is_named needs lengths (Local slot i) = is_below i (slice_get lengths slot)

-- how many cells these are
abbrev pub cell_count_of : List Need → List ℕ → ℕ
cell_count_of needs lengths = total (runs_with [] needs) + total (local_runs 0 lengths)

-- a u32 doesn't tell the cells or the local lists apart
abbrev pub IsTooMany : List Need → List ℕ → Type 0
IsTooMany needs lengths = (2 ^ 32 - 1 < cell_count_of needs lengths) ⊎ (2 ^ 32 - 1 < length lengths)

abbrev pub buffer_cell : Option (ℕ × ℕ) → Option Cell
buffer_cell o = option_map (λ p. Buffer p.0 p.1) o

abbrev pub local_cell : Option (ℕ × ℕ) → Option Cell
local_cell o = option_map (λ p. Local p.0 p.1) o

-- no element is in two runs, and the counts, which are those of the runs, fit a u32
pub record IsNumbering (buffers locals : List Run) (shared count : ℕ) : Type 0 where
  pub buffers_apart : AreApart buffers
  pub locals_apart : AreApart locals
  pub shared_is : shared ≡ total buffers
  pub count_is : count ≡ shared + total locals
  pub fits : count < 2 ^ 32
