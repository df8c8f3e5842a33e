-- Sources and sinks in memory.
use Rattle.std.specs.Prelude.{◌≡◌, ℕ, ◌-◌, ◌<◌, min, List, ◌++◌, length, take, drop, Result, Ok, Err}
use Rattle.sy_io.specs.declared.Failed.{Failed}
use Rattle.sy_io.specs.Calls.{Calls, called, faulted}

-- a source: the bytes left, the most bytes that it gives in one call, and its calls
pub record Feed : Type 0 where
  pub left : List ℕ
  pub piece : ℕ
  pub calls : Calls

-- how many bytes a call gives that offers so much room
abbrev pub given_count : Feed → ℕ → ℕ
given_count feed offered = min (min feed.piece offered) (length feed.left)

-- the source after a call
abbrev pub feed_after : Feed → Result ℕ Failed → Feed
feed_after feed (Ok n) = record feed { left = drop n feed.left; calls = called feed.calls }
feed_after feed (Err e) = record feed { calls = faulted (called feed.calls) }

-- a sink: the bytes taken, how many more it has room for, the most bytes that it takes in one call, and its calls
pub record Store : Type 0 where
  pub taken : List ℕ
  pub room : ℕ
  pub piece : ℕ
  pub calls : Calls

-- how many bytes a call takes of so many
abbrev pub taken_count : Store → ℕ → ℕ
taken_count store offered = min (min store.piece offered) store.room

-- bytes are offered, and no room is left
abbrev pub HasNoRoomFor : Store → List ℕ → Type 0
HasNoRoomFor store bytes = (0 < length bytes) × (store.room ≡ 0)

-- the sink after a call
abbrev pub store_after : Store → List ℕ → Result ℕ Failed → Store
store_after store bytes (Ok n) = record store { taken = store.taken ++ take n bytes; room = store.room - n; calls = called store.calls }
store_after store bytes (Err e) = record store { calls = faulted (called store.calls) }
