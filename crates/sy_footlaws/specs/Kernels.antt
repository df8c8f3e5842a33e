-- When the touches and writes of groups, as a kernel's meaning has them, are those of steps.
use Rattle.std.specs.Prelude.{Bool, List, None, Option, Some, [], false, if◌then◌else◌, true, ℕ, ◌≡◌, ◌∷◌}
use Rattle.sy_access.specs.declared.cells.Cell.{Cell}
use Rattle.sy_work.specs.declared.endings.Cause.TheVariants as cause
use Rattle.sy_work.specs.declared.endings.Fault.{Fault}
use Rattle.sy_meaning.specs.declared.runs.Step.{Step}
use Rattle.sy_meaning.specs.Items.{Failure, cell_of, fault_or, is_write, line_of}
use Rattle.sy_meaning.specs.Kernels.{Done, Touched, all_touches, buffer_steps, is_buffer_cell}
use Rattle.sy_foot.specs.Numbering.{number_at}
use Rattle.sy_foot.specs.Summaries.{meets_at}
use Rattle.sy_foot.specs.declared.earlier.EarlierGroups.{EarlierGroups}
use Rattle.sy_foot.specs.declared.numbering.CellNumbers.{CellNumbers}
use Rattle.sy_footlaws.specs.Courses.{touched, wrote}
use Rattle.sy_footlaws.specs.Groups.{AreNumbered, writes_made}

-- each cell is touched and written in both or in neither, and the writes are in one order
pub record AreStepsOf (d : Done) (ss : List Step) : Type 0 where
  pub touch : (c : Cell) → touched c (all_touches d) ≡ touched c (buffer_steps ss)
  pub write : (c : Cell) → wrote c (all_touches d) ≡ wrote c (buffer_steps ss)
  pub order : d.writes ≡ writes_made ss

-- what `meets` answers of a step
abbrev pub meets_number : EarlierGroups → Bool → Option ℕ → Bool
meets_number g write None = false
meets_number g write (Some n) = meets_at g n write

abbrev pub step_met : CellNumbers → EarlierGroups → Step → Bool
step_met m g s = meets_number g (is_write s) (number_at m (cell_of s))

-- the first step of which it answers yes, and the least item that has one
abbrev pub first_met : CellNumbers → EarlierGroups → List Step → Option Failure
first_met m g [] = None
first_met m g (s ∷ ss) = if step_met m g s then Some (cause.Clash (cell_of s), line_of s) else first_met m g ss

abbrev pub group_met : CellNumbers → EarlierGroups → List Touched → Option Fault
group_met m g [] = None
group_met m g (t ∷ ts) = fault_or t.0 (first_met m g t.1) (group_met m g ts)

-- each step is of a buffer's cell that has a number
pub record AreShared (m : CellNumbers) (ss : List Step) : Type 0 where
  pub buffers : (c : Cell) → touched c ss ≡ true → is_buffer_cell c ≡ true
  pub numbers : AreNumbered m ss
