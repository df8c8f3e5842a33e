-- The steps in which the elements of a root are renewed.
use Rattle.std.specs.Prelude.{ℕ, ℤ, pos, ◌&&◌, nat_lt, nat_le, if◌then◌else◌, List, unwrap_or}
use Rattle.sy_access.specs.declared.access.Need.{Need}
use Rattle.sy_access.specs.declared.cells.Cell.{Cell}
use Rattle.sy_access.specs.declared.cells.Cell.TheVariants as cell
use Rattle.sy_access.specs.Logs.{same_cell, logged}
use Rattle.sy_needs.specs.Elements.{starts_zero, is_written}

-- zero from one place up to another
unfoldable pub zero_in : ℕ → ℕ → ℕ → ℤ → ℤ
zero_in from to i v = if nat_le from i && nat_lt i to then pos 0 else v

-- zero from one place up to another where every need that has the element has no_init
unfoldable pub clear_in : List Need → ℕ → ℕ → ℕ → ℕ → ℤ → ℤ
clear_in needs b from to i v = if (nat_le from i && nat_lt i to) && starts_zero needs b i then pos 0 else v

-- zero where one of the first needs writes and every one of the second that has the element has no_init
unfoldable pub clear_at : List Need → List Need → ℕ → ℕ → ℤ → ℤ
clear_at writers needs b i v = if is_written writers b i && starts_zero needs b i then pos 0 else v

-- this number where a writing need has the element and it is this cell
unfoldable pub put_at : List Need → Cell → ℤ → ℕ → ℕ → ℤ → ℤ
put_at needs c x b i v = if is_written needs b i && same_cell c (cell.Buffer b i) then x else v

-- what the log has where a writing need has the element
unfoldable pub put_all_at : List Need → List (Cell × ℤ) → ℕ → ℕ → ℤ → ℤ
put_all_at needs log b i v = if is_written needs b i then unwrap_or (logged log (cell.Buffer b i)) v else v
