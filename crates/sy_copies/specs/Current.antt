-- Which numbers are current where, over all buffers that were made.
use Rattle.std.specs.Prelude.{◌≡◌, ℕ, zero, suc, ℤ, Bool, false, ◌==◌, if◌then◌else◌, List, [], ◌∷◌, length, Option, Some, None, option_map, IsTrue}
use Rattle.std.specs.List.{list_all}
use Rattle.sy_access.specs.declared.access.Need.{Need}
use Rattle.sy_access.specs.declared.cells.Cell.{Cell}
use Rattle.sy_copies.specs.declared.slots.Slot.{Slot}
use Rattle.sy_copies.specs.declared.buffer.Buffer.{Buffer}
use Rattle.sy_needs.specs.Versions.{renews}
use Rattle.sy_copies.specs.Slots.{has_slot}
use Rattle.sy_copies.specs.Places.{zeros, copy_in, published}

-- the buffer, if it was made and not dropped
abbrev pub buffer_at : List (Option Buffer) → ℕ → Option Buffer
buffer_at [] b = None
buffer_at (x ∷ xs) zero = x
buffer_at (x ∷ xs) (suc b) = buffer_at xs b

abbrev pub copy_of : Option Buffer → ℕ → Option (List ℤ)
copy_of None p = None
copy_of (Some x) p = copy_in x p

-- the current numbers of the buffer at the place, if it has a current copy
unfoldable pub copy_at : List (Option Buffer) → ℕ → ℕ → Option (List ℤ)
copy_at c p b = copy_of (buffer_at c b) p

abbrev pub len_of : Option Buffer → Option ℕ
len_of x = option_map (λ y. y.len) x

-- how many elements the buffer has, if it was made and not dropped
unfoldable pub len_at : List (Option Buffer) → ℕ → Option ℕ
len_at c b = len_of (buffer_at c b)

abbrev pub room_of : Option Buffer → ℕ → Bool
room_of None p = false
room_of (Some x) p = has_slot x.slots p

-- room was taken for the buffer at the place
unfoldable pub has_room : List (Option Buffer) → ℕ → ℕ → Bool
has_room c p b = room_of (buffer_at c b) p

-- all current copies of a buffer are equal
abbrev pub Agree : List (Option Buffer) → Type 0
Agree c = (b p q : ℕ) (v w : List ℤ) → copy_at c p b ≡ Some v → copy_at c q b ≡ Some w → v ≡ w

-- so many zeros, if there are any numbers
abbrev pub zeros_like : ℕ → Option (List ℤ) → Option (List ℤ)
zeros_like len None = None
zeros_like len (Some v) = Some (zeros len)

abbrev pub has_length : ℕ → Slot → Bool
has_length len s = length s.values == len

-- the shared numbers are zeros, and each place's cells are as many as the buffer has elements
abbrev pub IsSound : Option Buffer → Type 0
IsSound None = Unit {0}
IsSound (Some x) = (x.zeros ≡ zeros_like x.len x.zeros) × IsTrue (list_all (has_length x.len) x.slots)

abbrev pub Sound : List (Option Buffer) → Type 0
Sound c = (b : ℕ) → IsSound (buffer_at c b)

-- the buffer, once the command's version of this root stands at the place
unfoldable pub publish_one : ℕ → List Need → List (Cell × ℤ) → ℕ → ℕ → Option Buffer → Option Buffer
publish_one place needs log root b x = if root == b then option_map (published place needs log b) x else x

-- the buffer, once the versions of those roots stand at the place on which one of the last needs writes
unfoldable pub publish_at : ℕ → List Need → List (Cell × ℤ) → List Need → ℕ → Option Buffer → Option Buffer
publish_at place needs log writers b x = if renews writers b then option_map (published place needs log b) x else x
