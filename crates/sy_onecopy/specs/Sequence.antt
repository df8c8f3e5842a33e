-- The state after an order of steps, and how a run ends.
use Rattle.std.specs.Prelude.{◌≡◌, ℕ, suc, ◌^◌, ℤ, Bool, true, false, not, ◌&&◌, nat_lt, if◌then◌else◌, List, [], ◌∷◌, Option, Some, None, slice_get, is_none}
use Rattle.std.specs.List.{list_any}
use Rattle.sy_work.specs.declared.asks.Ask.{Ask}
use Rattle.sy_work.specs.declared.asks.Ask.TheVariants.{ThrowQueue}
use Rattle.sy_work.specs.declared.endings.KernelError.{KernelError}
use Rattle.sy_work.specs.declared.endings.Ending.{Ending}
use Rattle.sy_work.specs.declared.endings.Ending.TheVariants.{Returned, KernelFailed, Stuck, HistoryFull}
use Rattle.sy_work.specs.Programs.{Program}
use Rattle.sy_onecopy.specs.declared.Entry.{Entry}
use Rattle.sy_onecopy.specs.declared.Work.{Work}
use Rattle.sy_onecopy.specs.declared.Work.TheVariants.{Node, Access, End}
use Rattle.sy_onecopy.specs.declared.Stage.{Stage}
use Rattle.sy_onecopy.specs.declared.Stage.TheVariants.{Failed}
use Rattle.sy_onecopy.specs.declared.Waits.{Waits}
use Rattle.sy_onecopy.specs.declared.Waits.TheVariants.{Ready, Finished}
use Rattle.sy_onecopy.specs.Before.{is_done}
use Rattle.sy_onecopy.specs.State.{Board, State, start, next_ask}
use Rattle.sy_onecopy.specs.Copies.{copies}
use Rattle.sy_onecopy.specs.Step.{is_node_on, or_later, step}

abbrev pub is_ready : Waits → Bool
is_ready Ready = true
is_ready w = false

abbrev pub ready_at : Option Waits → Bool
ready_at None = false
ready_at (Some w) = is_ready w

-- the value of main's last step, if it has made it
abbrev pub value_of_main : List Waits → Option ℤ
value_of_main (Finished v ∷ ws) = Some v
value_of_main ws = None

-- nothing has ended the run, and main goes on
abbrev pub goes_on : Board → Bool
goes_on b = is_none b.ended && is_none (value_of_main b.waits)

-- a node of the queue is not done
unfoldable pub has_open_node_on : List Entry → ℕ → Bool
has_open_node_on entries q = list_any (λ e. is_node_on q e.work && not (is_done e.stage)) entries

-- a throw of a queue waits for the nodes of that queue
abbrev pub is_clear : Board → Ask → Bool
is_clear b (ThrowQueue q) = not (has_open_node_on b.entries q)
is_clear b ask = true

-- the run goes on, the thread's last ask is answered, and its next one is kept waiting by no node
unfoldable pub may_step : Program → State → ℕ → Bool
may_step p s t = goes_on s.board && (ready_at (slice_get s.board.waits t) && is_clear s.board (next_ask p s t))

-- a run has 2^24 steps at most
abbrev pub is_legal : Program → State → ℕ → Bool
is_legal p s t = may_step p s t && nat_lt s.board.steps (2 ^ 24)

-- the state after these steps, or none where one of them is not legal
abbrev pub seq_from : Program → State → List ℕ → Option State
seq_from p s [] = Some s
seq_from p s (t ∷ ts) = if is_legal p s t then seq_from p (step p s t) ts else None

abbrev pub seq : Program → List ℕ → Option State
seq p order = seq_from p (start p) order

-- ---- endings

-- the first number from this on, for as many as the list has, that passes
abbrev pub first_from : {A : Type 0} → (ℕ → Bool) → ℕ → List A → Option ℕ
first_from test k [] = None
first_from test k (x ∷ xs) = if test k then Some k else first_from test (suc k) xs

-- the least thread that may step
unfoldable pub first_thread : Program → State → Option ℕ
first_thread p s = first_from (may_step p s) 0 s.board.waits

abbrev pub is_command : Work → Bool
is_command (Node n q c) = true
is_command (Access t k) = false
is_command (End t r) = false

unfoldable pub has_open_node : List Entry → Bool
has_open_node entries = list_any (λ e. is_command e.work && not (is_done e.stage)) entries

abbrev pub error_of : Work → Stage → Option KernelError
error_of (Node n q c) (Failed f) = Some (record { node = n; fault = f })
error_of w s = None

-- the least failed node
abbrev pub first_error : List Entry → Option KernelError
first_error [] = None
first_error (e ∷ es) = or_later (error_of e.work e.stage) (first_error es)

abbrev pub ending_after_main : ℤ → Option KernelError → Ending
ending_after_main v None = Returned v
ending_after_main v (Some e) = KernelFailed e

-- no thread may step, or the history is full
abbrev pub ending_of_threads : ℕ → Option ℕ → Option Ending
ending_of_threads steps None = Some Stuck
ending_of_threads steps (Some t) = if nat_lt steps (2 ^ 24) then None else Some HistoryFull

-- main has made its last step with this value
abbrev pub ending_of_main : List Entry → ℤ → Ending
ending_of_main entries v = if has_open_node entries then Stuck else ending_after_main v (first_error entries)

-- the ending where main has made its last step with a value, or goes on and this is the least thread that may step
abbrev pub ending_by_main : Board → Option ℕ → Option ℤ → Option Ending
ending_by_main b first (Some v) = Some (ending_of_main b.entries v)
ending_by_main b first None = ending_of_threads b.steps first

-- the ending where a step has ended the run, or none has
abbrev pub ending_by_step : Board → Option ℕ → Option Ending → Option Ending
ending_by_step b first (Some e) = Some e
ending_by_step b first None = ending_by_main b first (value_of_main b.waits)

-- the ending of a board on which this is the least thread that may step, if it has one
abbrev pub ending_at : Board → Option ℕ → Option Ending
ending_at b first = ending_by_step b first b.ended

-- the ending of a state, if it has one
unfoldable pub ending : Program → State → Option Ending
ending p s = ending_at s.board (first_thread p s)

-- each step was that of the least thread that may step
abbrev pub IsSerial : Program → State → List ℕ → Type 0
IsSerial p s [] = Unit {0}
IsSerial p s (t ∷ ts) = (first_thread p s ≡ Some t) × IsSerial p (step p s t) ts

-- the run of the program in this order has this ending, this output and so many copies
pub record IsRun (p : Program) (order : List ℕ) (end : Ending) (output : List ℕ) (copied : ℕ) : Type 0 where
  pub state : State
  pub legal : seq p order ≡ Some state
  pub ends : ending p state ≡ Some end
  pub written : output ≡ state.board.output
  pub counted : copied ≡ copies state.board.entries state.board.buffers
