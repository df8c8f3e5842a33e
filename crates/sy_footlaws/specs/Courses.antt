-- What the items of a group did so far, and what that did to one cell.
use Rattle.std.specs.List.{list_any}
use Rattle.std.specs.Prelude.{Bool, List, [], if◌then◌else◌, ℤ, ◌&&◌, ◌++◌, ◌∷◌}
use Rattle.sy_access.specs.Logs.{same_cell}
use Rattle.sy_access.specs.declared.cells.Cell.{Cell}
use Rattle.sy_meaning.specs.declared.runs.Step.{Step}
use Rattle.sy_meaning.specs.declared.runs.Step.TheVariants as steps
use Rattle.sy_meaning.specs.Items.{cell_of, is_write}

abbrev pub touches : Cell → Step → Bool
touches c s = same_cell c (cell_of s)

abbrev pub writes : Cell → Step → Bool
writes c s = same_cell c (cell_of s) && is_write s

abbrev pub touched : Cell → List Step → Bool
touched c ss = list_any (touches c) ss

abbrev pub wrote : Cell → List Step → Bool
wrote c ss = list_any (writes c) ss

-- the number in the cell after the steps
abbrev pub number_after : ℤ → Cell → List Step → ℤ
number_after z c [] = z
number_after z c (steps.Read d line ∷ ss) = number_after z c ss
number_after z c (steps.Wrote d y line ∷ ss) = number_after (if same_cell c d then y else z) c ss

-- the steps of earlier phases, those of earlier items in the phase, and those of the item
pub record Course : Type 0 where
  pub before : List Step
  pub earlier : List Step
  pub own : List Step

abbrev pub phase_steps : Course → List Step
phase_steps r = r.earlier ++ r.own

abbrev pub all_steps : Course → List Step
all_steps r = r.before ++ phase_steps r

abbrev pub nothing_yet : Course
nothing_yet = record { before = []; earlier = []; own = [] }

abbrev pub with_step : Course → Step → Course
with_step r s = record r { own = r.own ++ s ∷ [] }

abbrev pub item_ended : Course → Course
item_ended r = record { before = r.before; earlier = phase_steps r; own = [] }

abbrev pub phase_ended : Course → Course
phase_ended r = record { before = all_steps r; earlier = []; own = [] }
