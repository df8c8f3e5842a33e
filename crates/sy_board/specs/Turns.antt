-- How a board gives answers one thread after another, and how it ends.
use Rattle.std.specs.Prelude.{ℕ, zero, suc, Bool, false, ◌&&◌, Option, Some, None, slice_get}
use Rattle.sy_work.specs.declared.asks.Ask.{Ask}
use Rattle.sy_work.specs.declared.asks.Answer.{Answer}
use Rattle.sy_onecopy.specs.declared.Waits.{Waits}
use Rattle.sy_onecopy.specs.declared.Waits.TheVariants.{Due}
use Rattle.sy_onecopy.specs.Each.{changed_at}
use Rattle.sy_onecopy.specs.State.{Board}
use Rattle.sy_onecopy.specs.Step.{given, once_heard}
use Rattle.sy_onecopy.specs.Sequence.{goes_on, ready_at, is_clear}

-- the wait of thread k is answered, if it is over
abbrev pub give_one : ℕ → Board → Board
give_one k b = record b { waits = changed_at (given b) k b.waits }

-- those of the first k threads, one after another
abbrev pub give_upto : Board → ℕ → Board
give_upto b zero = b
give_upto b (suc k) = give_one k (give_upto b k)

-- the answer that is due
abbrev pub due_of : Option Waits → Option Answer
due_of (Some (Due a)) = Some a
due_of w = None

-- the answer that is due to thread k has reached it
abbrev pub hear_one : ℕ → Board → Board
hear_one k b = record b { waits = changed_at once_heard k b.waits }

-- the run goes on, the thread is ready, and nothing keeps its ask waiting, if it has one
abbrev pub may_go : Board → ℕ → Option Ask → Bool
may_go b t None = false
may_go b t (Some q) = goes_on b && (ready_at (slice_get b.waits t) && is_clear b q)
