-- How the copies of all places show those of the core.
use Rattle.std.specs.Prelude.{◌≡◌, ℕ, ℤ, List, [], length, Option, Some}
use Rattle.sy_access.specs.declared.cells.Cell.{Cell}
use Rattle.sy_work.specs.declared.commands.Outcome.{Outcome}
use Rattle.sy_work.specs.declared.commands.Outcome.TheVariants.{Wrote, Failed}
use Rattle.sy_copies.specs.declared.buffer.Buffer.{Buffer}
use Rattle.sy_copies.specs.Current.{copy_at, len_at}
use Rattle.sy_onecopy.specs.Outcome.{values_at}
use Rattle.sy_coreboard.specs.Core.{Core}
use Rattle.sy_coreboard.specs.Sources.{IsLive}

-- the copies are of the core's buffers, have its numbers, and its counts for each root that may still be named
pub record Shows (copies : List (Option Buffer)) (c : Core) : Type 0 where
  pub count : length copies ≡ length c.board.buffers
  pub values : (p r : ℕ) → c.copies p r ≡ copy_at copies p r
  pub lens : (r : ℕ) → IsLive c.board r → len_at copies r ≡ Some (length (values_at c.board.buffers r))

-- what a command that came out so wrote
abbrev pub log_by : Outcome → List (Cell × ℤ)
log_by (Wrote log) = log
log_by (Failed fault) = []
