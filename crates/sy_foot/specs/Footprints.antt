-- What is kept of a group's touches: the turn of the item that runs (each item of each phase has one of its own, ever
-- greater), the turn at which the phase began, an entry for each cell, and the cells in the order of their first writes.
use Rattle.std.specs.Prelude.{◌≡◌, ◌≢◌, ℕ, ℤ, Bool, true, false, if◌then◌else◌, nat_lt, nat_le, ◌&&◌, List, Option, Some, None}
use Rattle.sy_foot.specs.declared.entry.Entry.{Entry}
use Rattle.sy_foot.specs.declared.footprint.Footprint.{Footprint}
use Rattle.sy_foot.specs.Kept.{entry_at, cell_count}
use Rattle.sy_foot.specs.Writes.{first_written, is_written}

-- what is kept of a cell
abbrev pub kept : Footprint → ℕ → Option Entry
kept f c = entry_at f.entries c

-- how many cells there is room for
abbrev pub room : Footprint → ℕ
room f = cell_count f.entries

-- the turn of the item that runs, and the turn at which the phase began
abbrev pub turn_of : Footprint → ℕ
turn_of f = f.turn

abbrev pub phase_start : Footprint → ℕ
phase_start f = f.start

-- the cells that the group wrote, in the order of their first writes
abbrev pub written_by : Footprint → List ℕ
written_by f = f.written.items

-- a touch at that turn was by an earlier item of the phase
abbrev pub is_earlier : Footprint → ℕ → Bool
is_earlier f turn = nat_le f.start turn && nat_lt turn f.turn

-- the item's read clashes: an earlier item of the phase wrote the cell
abbrev pub read_clashes : Footprint → Option Entry → Bool
read_clashes f None = false
read_clashes f (Some e) = is_earlier f e.write

-- the item's write clashes: an earlier item of the phase touched the cell
abbrev pub write_clashes : Footprint → Option Entry → Bool
write_clashes f None = false
write_clashes f (Some e) = is_earlier f e.touch

-- the phase's first touch of the cell
abbrev pub first_touch : Footprint → ℕ → ℕ
first_touch f touch = if nat_lt touch f.start then f.turn else touch

-- what a read leaves
abbrev pub after_read : Footprint → ℕ → ℤ → Option Entry → Entry
after_read f c opening None = record { cell = c; wrote = false; number = opening; touch = f.turn; write = 0 }
after_read f c opening (Some e) = record e { touch = first_touch f e.touch }

-- what a write leaves
abbrev pub after_write : Footprint → ℕ → ℤ → Entry
after_write f c number = record { cell = c; wrote = true; number = number; touch = f.turn; write = f.turn }

-- the cells in the order of their first writes, after a write
abbrev pub written_with : Footprint → ℕ → List ℕ
written_with f c = first_written (is_written (kept f c)) f.written.items c

-- one cell has a new entry, and every other one keeps what it has
pub record Notes (old new : Footprint) (e : Entry) : Type 0 where
  pub here : kept new e.cell ≡ Some e
  pub others : (d : ℕ) → d ≢ e.cell → kept new d ≡ kept old d
  pub room : room new ≡ room old
  pub start : new.start ≡ old.start
  pub turn : new.turn ≡ old.turn

-- no entry, turn or first write is another
pub record Stays (old new : Footprint) : Type 0 where
  pub entries : (d : ℕ) → kept new d ≡ kept old d
  pub written : new.written.items ≡ old.written.items
  pub room : room new ≡ room old
  pub start : new.start ≡ old.start
  pub turn : new.turn ≡ old.turn

-- the entries stay while the turn and the phase's start change
pub record Advances (old new : Footprint) (start turn : ℕ) : Type 0 where
  pub entries : (d : ℕ) → kept new d ≡ kept old d
  pub written : new.written.items ≡ old.written.items
  pub room : room new ≡ room old
  pub begun : new.start ≡ start
  pub now : new.turn ≡ turn
