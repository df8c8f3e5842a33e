-- When what is kept of the earlier groups says what their items did, and when a group's writes are its log.
use Rattle.std.specs.Prelude.{Bool, List, Some, false, filter_map, flat_map, length, true, ℕ, ℤ, ◌≡◌, ◌++◌}
use Rattle.sy_access.specs.declared.cells.Cell.{Cell}
use Rattle.sy_access.specs.declared.cells.Cell.TheVariants.{Buffer}
use Rattle.sy_foot.specs.Earlier.{state_after}
use Rattle.sy_foot.specs.Footprints.{kept, written_by}
use Rattle.sy_foot.specs.GroupLogs.{cell_log}
use Rattle.sy_foot.specs.Numbering.{number_at, shared_total}
use Rattle.sy_foot.specs.Summaries.{meets_at, state_at, states_of, writes_of}
use Rattle.sy_foot.specs.Writes.{shared_writes}
use Rattle.sy_foot.specs.declared.earlier.EarlierGroups.{EarlierGroups}
use Rattle.sy_foot.specs.declared.earlier.State.{State}
use Rattle.sy_foot.specs.declared.earlier.State.TheVariants.{Read, Untouched, Written}
use Rattle.sy_foot.specs.declared.entry.Entry.{Entry}
use Rattle.sy_foot.specs.declared.footprint.Footprint.{Footprint}
use Rattle.sy_foot.specs.declared.numbering.CellNumbers.{CellNumbers}
use Rattle.sy_meaning.specs.declared.runs.Step.{Step}
use Rattle.sy_meaning.specs.Items.{write_of}
use Rattle.sy_meaning.specs.Items as phases
use Rattle.sy_meaning.specs.Kernels.{log_of}
use Rattle.sy_footlaws.specs.Courses.{Course, all_steps, touched, wrote}

-- what touches and writes leave of a cell
abbrev pub state_left : Bool → Bool → State
state_left touch true = Written
state_left true false = Read
state_left false false = Untouched

abbrev pub writes_made : List Step → List (Cell × ℤ)
writes_made ss = filter_map write_of ss

-- each cell of a buffer has the state that the steps left, and the log is that of their writes
pub record GroupsStandFor (m : CellNumbers) (g : EarlierGroups) (ss : List Step) : Type 0 where
  pub shared : length (states_of g) ≡ shared_total m
  pub states : (root i n : ℕ) → number_at m (Buffer root i) ≡ Some n → state_at g n ≡ Some (state_left (touched (Buffer root i) ss) (wrote (Buffer root i) ss))
  pub log : cell_log m (writes_of g) ≡ log_of (writes_made ss)

-- a group's writes to buffers are the log of its steps
abbrev pub IsLogOf : CellNumbers → Footprint → Course → Type 0
IsLogOf m f r = cell_log m (shared_writes (shared_total m) (kept f) (written_by f)) ≡ log_of (writes_made (all_steps r))

-- each step's cell has a number
abbrev pub AreNumbered : CellNumbers → List Step → Type 0
AreNumbered m ss = (c : Cell) → touched c ss ≡ true → (n : ℕ) × (number_at m c ≡ Some n)

-- the earlier groups before and after a group that they took in, which met none of them
pub record Absorbs (g h : EarlierGroups) (f : Footprint) : Type 0 where
  pub clean : (c : ℕ) (e : Entry) → kept f c ≡ Some e → meets_at g c e.wrote ≡ false
  pub joined : (c : ℕ) → state_at h c ≡ state_after (state_at g c) (kept f c)
  pub shared : length (states_of h) ≡ length (states_of g)
  pub writes : writes_of h ≡ writes_of g ++ shared_writes (length (states_of g)) (kept f) (written_by f)

-- the steps of a phase, item by item
abbrev pub steps_of : List phases.Footprint → List Step
steps_of fs = flat_map (λ f. f.steps) fs
