-- The cells that places have of their own of one buffer.
use Rattle.std.specs.Prelude.{◌≡◌, ℕ, ◌<◌, ℤ, Bool, true, false, not, ◌||◌, ◌==◌, if◌then◌else◌, List, [], ◌∷◌, length, slice_set, Option, Some, None}
use Rattle.std.specs.Option.{is_some}
use Rattle.sy_access.specs.declared.access.Need.{Need}
use Rattle.sy_access.specs.declared.cells.Cell.{Cell}
use Rattle.sy_copies.specs.declared.slots.Slot.{Slot}
use Rattle.sy_copies.specs.Commands.{cells_after, start_of}

-- the slot of the place
abbrev pub slot_at : List Slot → ℕ → Option Slot
slot_at [] p = None
slot_at (s ∷ ss) p = if s.place == p then Some s else slot_at ss p

-- the place has cells of its own
abbrev pub has_slot : List Slot → ℕ → Bool
has_slot slots p = is_some (slot_at slots p)

-- the slots with this one for the place
abbrev pub with_slot : ℕ → Slot → List Slot → List Slot
with_slot p y [] = y ∷ []
with_slot p y (s ∷ ss) = if s.place == p then y ∷ ss else s ∷ with_slot p y ss

-- a write at k gives the place another slot
abbrev pub IsSlotOf : List Slot → ℕ → ℕ → Type 0
IsSlotOf slots p k = (k < length slots) × ((y : Slot) → slice_set slots k y ≡ with_slot p y slots)

-- the slot with the numbers that the command leaves; stale cells are as good as zeros
unfoldable pub renewed_slot : Bool → List Need → List (Cell × ℤ) → ℕ → Slot → Slot
renewed_slot replaced needs log b s =
    record s { current = true; values = cells_after needs log b (start_of (replaced || not s.current) (length s.values) s.values) }

-- the slot once the command's version stands at the place
unfoldable pub slot_after : ℕ → Bool → List Need → List (Cell × ℤ) → ℕ → Slot → Slot
slot_after p replaced needs log b s = if s.place == p then renewed_slot replaced needs log b s else record s { current = false }
