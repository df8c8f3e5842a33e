-- What a command wrote, as a list of cells with their numbers.
use Rattle.std.specs.Prelude.{ℤ, Bool, true, false, not, ◌&&◌, ◌||◌, ◌==◌, List, [], ◌∷◌, Option, Some, None, if◌then◌else◌}
use Rattle.sy_access.specs.declared.cells.Cell.{Cell}
use Rattle.sy_access.specs.declared.cells.Cell.TheVariants.{Buffer, Local}

-- two cells are one
unfoldable pub same_cell : Cell → Cell → Bool
same_cell (Buffer r i) (Buffer s j) = r == s && i == j
same_cell (Local r i) (Local s j) = r == s && i == j
same_cell (Buffer r i) (Local s j) = false
same_cell (Local r i) (Buffer s j) = false

-- the number that the log has for the cell
abbrev pub logged : List (Cell × ℤ) → Cell → Option ℤ
logged [] c = None
logged (w ∷ ws) c = if same_cell w.0 c then Some w.1 else logged ws c

-- the log names the cell
abbrev pub is_logged : List (Cell × ℤ) → Cell → Bool
is_logged [] c = false
is_logged (w ∷ ws) c = same_cell w.0 c || is_logged ws c

-- no cell is named twice
abbrev pub differ : List (Cell × ℤ) → Bool
differ [] = true
differ (w ∷ ws) = not (is_logged ws w.0) && differ ws
