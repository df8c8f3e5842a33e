-- What each call changes, and what it leaves.
use Rattle.std.specs.Prelude.{◌≡◌, ℕ, ◌+◌, ℤ, Bool, true, false, ◌&&◌, ◌==◌, if◌then◌else◌, List, [], length, Option, Some, None, unwrap_or, IsTrue, IsSome}
use Rattle.sy_access.specs.declared.access.Need.{Need}
use Rattle.sy_access.specs.declared.cells.Cell.{Cell}
use Rattle.sy_copies.specs.declared.buffer.Buffer.{Buffer}
use Rattle.sy_copies.specs.Commands.{cells_after, start_of}
use Rattle.sy_needs.specs.Versions.{renews, replaces}
use Rattle.sy_copies.specs.Places.{zeros}
use Rattle.sy_copies.specs.Current.{copy_at, len_at, has_room}

-- a new buffer's copy at the place: these numbers at the host alone, or zeros at every place
abbrev pub first_copy : ℕ → Option (List ℤ) → ℕ → Option (List ℤ)
first_copy len None p = Some (zeros len)
first_copy len (Some values) p = if 0 == p then Some values else None

abbrev pub first_room : Option (List ℤ) → ℕ → Bool
first_room None p = false
first_room (Some values) p = 0 == p

-- buffer n is new, and all others are as they were
pub record Makes (old new : List (Option Buffer)) (len : ℕ) (init : Option (List ℤ)) (n : ℕ) : Type 0 where
  pub number : n ≡ length old
  pub made : length new ≡ length old + 1
  pub lens : (b : ℕ) → len_at new b ≡ (if n == b then Some len else len_at old b)
  pub copies : (p b : ℕ) → copy_at new p b ≡ (if n == b then first_copy len init p else copy_at old p b)
  pub rooms : (p b : ℕ) → has_room new p b ≡ (if n == b then first_room init p else has_room old p b)

-- these numbers are the place's copy of the buffer, and all other copies are as they were
pub record Installs (old new : List (Option Buffer)) (place buffer : ℕ) (values : List ℤ) : Type 0 where
  pub made : length new ≡ length old
  pub lens : (b : ℕ) → len_at new b ≡ len_at old b
  pub copies : (p b : ℕ) → copy_at new p b ≡ (if buffer == b && place == p then Some values else copy_at old p b)
  pub rooms : (p b : ℕ) → has_room new p b ≡ (if buffer == b && place == p then true else has_room old p b)

-- there is room for the buffer at the place, and all copies are as they were
pub record Reserves (old new : List (Option Buffer)) (place buffer : ℕ) : Type 0 where
  pub made : length new ≡ length old
  pub lens : (b : ℕ) → len_at new b ≡ len_at old b
  pub copies : (p b : ℕ) → copy_at new p b ≡ copy_at old p b
  pub rooms : (p b : ℕ) → has_room new p b ≡ (if buffer == b && place == p then true else has_room old p b)

-- the root has room at the place, and is current there if the command needs its numbers
pub record MayRenew (c : List (Option Buffer)) (place : ℕ) (needs : List Need) (b : ℕ) : Type 0 where
  pub room : IsTrue (has_room c place b)
  pub current : (len : ℕ) → len_at c b ≡ Some len → replaces needs b len ≡ false → IsSome (copy_at c place b)

-- this holds of each root that the command writes
abbrev pub MayPublish : List (Option Buffer) → ℕ → List Need → Type 0
MayPublish c place needs = (b : ℕ) → IsTrue (renews needs b) → MayRenew c place needs b

-- the version that the command makes of a root of so many elements from this copy: it starts from zeros if the copy is not needed
unfoldable pub version : List Need → List (Cell × ℤ) → ℕ → ℕ → Option (List ℤ) → List ℤ
version needs log b len copy = cells_after needs log b (start_of (replaces needs b len) len (unwrap_or copy []))

-- the version of each root that the command writes is current at the place alone, and all other roots are as they were
pub record Publishes (old new : List (Option Buffer)) (place : ℕ) (needs : List Need) (log : List (Cell × ℤ)) : Type 0 where
  pub made : length new ≡ length old
  pub lens : (b : ℕ) → len_at new b ≡ len_at old b
  pub versions : (p b len : ℕ) → IsTrue (renews needs b) → len_at old b ≡ Some len → copy_at new p b ≡ (if place == p then Some (version needs log b len (copy_at old place b)) else None)
  pub others : (p b : ℕ) → renews needs b ≡ false → copy_at new p b ≡ copy_at old p b
  pub rooms : (p b : ℕ) → has_room new p b ≡ has_room old p b

-- the buffer has no copy and no room, and all others are as they were
pub record Drops (old new : List (Option Buffer)) (buffer : ℕ) : Type 0 where
  pub made : length new ≡ length old
  pub lens : (b : ℕ) → len_at new b ≡ (if buffer == b then None else len_at old b)
  pub copies : (p b : ℕ) → copy_at new p b ≡ (if buffer == b then None else copy_at old p b)
  pub rooms : (p b : ℕ) → has_room new p b ≡ (if buffer == b then false else has_room old p b)
