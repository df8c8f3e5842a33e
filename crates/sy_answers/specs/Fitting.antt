-- That what a thread is answered fits what it asked.
use Rattle.std.specs.Prelude.{◌≡◌, ◌≢◌, ◌<◌, ◌≤◌, ◌⊎◌, ℕ, suc, ℤ, true, false, nat_lt, if◌then◌else◌, List, [], ◌∷◌, length, Option, Some, None, slice_get}
use Rattle.sy_work.specs.declared.asks.Ask.{Ask}
use Rattle.sy_work.specs.declared.asks.Ask.TheVariants.{EndBuffer, Spawn}
use Rattle.sy_work.specs.declared.asks.Answer.{Answer}
use Rattle.sy_work.specs.declared.asks.Answer.TheVariants.{Done, Contents}
use Rattle.sy_work.specs.Programs.{Program}
use Rattle.sy_work.specs.Answers.{Fits}
use Rattle.sy_onecopy.specs.declared.Buffer.{Buffer}
use Rattle.sy_onecopy.specs.declared.Origin.TheVariants.{Vector}
use Rattle.sy_onecopy.specs.declared.Waits.{Waits}
use Rattle.sy_onecopy.specs.declared.Waits.TheVariants.{Due}
use Rattle.sy_onecopy.specs.State.{Board, State, next_ask}
use Rattle.sy_onecopy.specs.Step.{turn}
use Rattle.sy_onecopy.specs.Sequence.{ready_at}

-- the board after the turn of thread t, in which the answers that it gives are due
abbrev pub board_after : Program → State → ℕ → Board
board_after p s t = turn p.outcome s.board t (next_ask p s t)

-- how many threads there are after an ask: a spawn adds one, up to 64
abbrev pub count_after : Ask → ℕ → ℕ
count_after (Spawn body captures) n = if nat_lt n 64 then suc n else n
count_after ask n = n

-- the answer fits the end of this buffer: over a vector as many numbers as the buffer has, and else Done
abbrev pub FitsEnd : Option Buffer → Answer → Type 0
FitsEnd (Some x) (Contents values) = (x.origin ≡ Vector) × (length values ≡ length x.values)
FitsEnd (Some x) Done = x.origin ≢ Vector
FitsEnd x a = ⊥

-- the answer fits the ask, where these are the buffers
abbrev pub FitsOver : List Buffer → Ask → Answer → Type 0
FitsOver buffers (EndBuffer r) a = FitsEnd (slice_get buffers r) a
FitsOver buffers q a = Fits q a

-- the ask starts a thread
abbrev pub IsSpawn : Ask → Type 0
IsSpawn ask = (body : ℕ) × (captures : List ℤ) × (ask ≡ Spawn body captures)

abbrev pub due_of : Waits → List Answer
due_of (Due a) = a ∷ []
due_of w = []

-- the answer that is due, if one is
abbrev pub due_at : Option Waits → List Answer
due_at None = []
due_at (Some w) = due_of w

-- what a step of thread t answers, of the asks that the threads made before it
pub record StepFits (p : Program) (s : State) (t : ℕ) : Type 0 where
  -- an answer fits what its thread asked
  pub fits : (u : ℕ) (a : Answer) → slice_get (board_after p s t).waits u ≡ Some (Due a) → Fits (next_ask p s u) a
  -- the end of a buffer over a vector is answered with as many numbers as the buffer has
  pub ends : (u r : ℕ) (a : Answer) → slice_get (board_after p s t).waits u ≡ Some (Due a) → next_ask p s u ≡ EndBuffer r → FitsEnd (slice_get (board_after p s t).buffers r) a
  -- beside t only threads that wait are answered
  pub asked : (u : ℕ) (a : Answer) → slice_get (board_after p s t).waits u ≡ Some (Due a) → u ≢ t → ready_at (slice_get s.board.waits u) ≡ false
  -- who was ready stays so
  pub still : (u : ℕ) → u ≢ t → ready_at (slice_get s.board.waits u) ≡ true → ready_at (slice_get (board_after p s t).waits u) ≡ true
  -- who is ready was so, or was started by this step
  pub begins : (u : ℕ) → ready_at (slice_get (board_after p s t).waits u) ≡ true → ((u ≢ t) × (ready_at (slice_get s.board.waits u) ≡ true)) ⊎ ((u ≡ length s.board.waits) × IsSpawn (next_ask p s t))
  -- a thread that the step starts is ready
  pub fresh : (u : ℕ) → length s.board.waits ≤ u → u < length (board_after p s t).waits → ready_at (slice_get (board_after p s t).waits u) ≡ true
  -- how many threads there are then
  pub count : length (board_after p s t).waits ≡ count_after (next_ask p s t) (length s.board.waits)

-- each thread has its wait, and none has an answer that it didn't hear
pub record Counted (s : State) : Type 0 where
  pub members : length s.threads ≡ length s.board.waits
  pub heard : (u : ℕ) (a : Answer) → slice_get s.board.waits u ≢ Some (Due a)
