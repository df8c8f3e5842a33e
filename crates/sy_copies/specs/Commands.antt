-- What a command with these needs and this log leaves of a root.
use Rattle.std.specs.Prelude.{ℕ, ℤ, pos, Bool, not, ◌&&◌, ◌==◌, nat_lt, if◌then◌else◌, List, replicate}
use Rattle.sy_access.specs.declared.access.Need.{Need}
use Rattle.sy_access.specs.declared.cells.Cell.{Cell}
use Rattle.sy_access.specs.declared.cells.Cell.TheVariants as cell
use Rattle.sy_needs.specs.Each.{each_from}
use Rattle.sy_needs.specs.Elements.{cell_after}

-- the need has elements of the root and wants their numbers
abbrev pub keeps : Need → ℕ → Bool
keeps n b = n.buffer == b && not n.no_init && nat_lt n.from n.to

-- the elements of the root after the command
unfoldable pub cells_after : List Need → List (Cell × ℤ) → ℕ → List ℤ → List ℤ
cells_after needs log b values = each_from (cell_after needs log b) 0 values

-- so many zeros, or these values
unfoldable pub start_of : Bool → ℕ → List ℤ → List ℤ
start_of from_zeros count values = if from_zeros then replicate count (pos 0) else values
