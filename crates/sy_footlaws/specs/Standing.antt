-- When what is kept of a group says what its items did.
use Rattle.std.specs.Prelude.{Bool, None, Option, Some, false, nat_le, nat_lt, true, ℕ, ℤ, ◌&&◌, ◌≡◌, ◌≤◌}
use Rattle.sy_access.specs.declared.cells.Cell.{Cell}
use Rattle.sy_foot.specs.Footprints.{kept}
use Rattle.sy_foot.specs.Numbering.{number_at}
use Rattle.sy_foot.specs.declared.entry.Entry.{Entry}
use Rattle.sy_foot.specs.declared.footprint.Footprint.{Footprint}
use Rattle.sy_foot.specs.declared.numbering.CellNumbers.{CellNumbers}
use Rattle.sy_footlaws.specs.Courses.{Course, all_steps, number_after, phase_steps, touched, wrote}

-- a turn is one of the phase, or one of an earlier item in it
abbrev pub in_phase : Footprint → ℕ → Bool
in_phase f turn = nat_le f.start turn

abbrev pub by_earlier : Footprint → ℕ → Bool
by_earlier f turn = nat_le f.start turn && nat_lt turn f.turn

-- the entry says what the steps did to the cell
pub record EntrySays (f : Footprint) (opening : ℤ) (c : Cell) (r : Course) (e : Entry) : Type 0 where
  pub number : e.number ≡ number_after opening c (all_steps r)
  pub writing : e.wrote ≡ wrote c (all_steps r)
  pub touching : touched c (all_steps r) ≡ true
  pub touch_by_now : e.touch ≤ f.turn
  pub touch_in_phase : in_phase f e.touch ≡ touched c (phase_steps r)
  pub touch_by_earlier : by_earlier f e.touch ≡ touched c r.earlier
  pub write_by_now : e.write ≤ f.turn
  pub write_in_phase : in_phase f e.write ≡ wrote c (phase_steps r)
  pub write_by_earlier : by_earlier f e.write ≡ wrote c r.earlier

abbrev pub Says : Footprint → ℤ → Cell → Course → Option Entry → Type 0
Says f opening c r None = touched c (all_steps r) ≡ false
Says f opening c r (Some e) = EntrySays f opening c r e

-- what is kept of each cell says what the steps did to it
pub record StandsFor (m : CellNumbers) (opening : Cell → ℤ) (f : Footprint) (r : Course) : Type 0 where
  pub cells : (c : Cell) (n : ℕ) → number_at m c ≡ Some n → Says f (opening c) c r (kept f n)
  pub begun : f.start ≤ f.turn
  pub counted : 1 ≤ f.start
