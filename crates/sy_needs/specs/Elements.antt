-- What one element of a root is as a command with these needs starts, and after it wrote a log.
use Rattle.std.specs.Prelude.{ℕ, ℤ, pos, Bool, not, ◌&&◌, ◌||◌, if◌then◌else◌, List, unwrap_or}
use Rattle.std.specs.List.{list_any, list_all}
use Rattle.sy_access.specs.declared.access.Need.{Need}
use Rattle.sy_access.specs.declared.cells.Cell.{Cell}
use Rattle.sy_access.specs.declared.cells.Cell.TheVariants as cell
use Rattle.sy_access.specs.Needs.{has_cell, writes}
use Rattle.sy_access.specs.Logs.{logged}

-- the need does not have the element, or has no_init
abbrev pub is_fresh_at : ℕ → ℕ → Need → Bool
is_fresh_at b i n = not (has_cell n b i) || n.no_init

-- every need that has the element has no_init
unfoldable pub starts_zero : List Need → ℕ → ℕ → Bool
starts_zero needs b i = list_all (is_fresh_at b i) needs

abbrev pub writes_at : ℕ → ℕ → Need → Bool
writes_at b i n = has_cell n b i && writes n.mode

-- a need that writes has the element
unfoldable pub is_written : List Need → ℕ → ℕ → Bool
is_written needs b i = list_any (writes_at b i) needs

-- the element as the command starts
unfoldable pub at_start : List Need → ℕ → ℕ → ℤ → ℤ
at_start needs b i v = if starts_zero needs b i then pos 0 else v

-- the element after a command that wrote this log: what it wrote where a need of it writes
unfoldable pub cell_after : List Need → List (Cell × ℤ) → ℕ → ℕ → ℤ → ℤ
cell_after needs log b i v = if is_written needs b i then unwrap_or (logged log (cell.Buffer b i)) (at_start needs b i v) else v
