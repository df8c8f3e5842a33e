-- Which numbers of a buffer are current at a place, and what each call makes of a buffer.
use Rattle.std.specs.Prelude.{ℕ, ℤ, pos, true, false, if◌then◌else◌, List, [], ◌∷◌, map, replicate, Option, Some, None}
use Rattle.sy_access.specs.declared.access.Need.{Need}
use Rattle.sy_access.specs.declared.cells.Cell.{Cell}
use Rattle.sy_copies.specs.declared.slots.Slot.{Slot}
use Rattle.sy_copies.specs.declared.buffer.Buffer.{Buffer}
use Rattle.sy_needs.specs.Versions.{replaces}
use Rattle.sy_copies.specs.Slots.{slot_at, has_slot, with_slot, slot_after}

-- so many zeros
abbrev pub zeros : ℕ → List ℤ
zeros n = replicate n (pos 0)

-- the numbers of a current slot, or else these
abbrev pub own_or : Option Slot → Option (List ℤ) → Option (List ℤ)
own_or None o = o
own_or (Some s) o = if s.current then Some s.values else o

-- the current numbers at the place
unfoldable pub copy_in : Buffer → ℕ → Option (List ℤ)
copy_in x p = own_or (slot_at x.slots p) x.zeros

-- the slot of a place with these numbers
abbrev pub current_slot : ℕ → List ℤ → Slot
current_slot p values = record { place = p; current = true; values = values }

-- a buffer with these numbers at the host, or else with zeros everywhere
unfoldable pub first : ℕ → Option (List ℤ) → Buffer
first len None = record { len = len; zeros = Some (zeros len); slots = [] }
first len (Some values) = record { len = len; zeros = None; slots = current_slot 0 values ∷ [] }

-- the buffer with these numbers at the place
unfoldable pub installed : ℕ → List ℤ → Buffer → Buffer
installed p values x = record x { slots = with_slot p (current_slot p values) x.slots }

-- a slot of so many cells that has no current numbers
abbrev pub stale_slot : ℕ → ℕ → Slot
stale_slot p len = record { place = p; current = false; values = zeros len }

-- the buffer with cells for the place
unfoldable pub reserved : ℕ → Buffer → Buffer
reserved p x = if has_slot x.slots p then x else record x { slots = with_slot p (stale_slot p x.len) x.slots }

-- the buffer once the command's version stands at the place
unfoldable pub published : ℕ → List Need → List (Cell × ℤ) → ℕ → Buffer → Buffer
published p needs log b x = record x { zeros = None; slots = map (slot_after p (replaces needs b x.len) needs log b) x.slots }
