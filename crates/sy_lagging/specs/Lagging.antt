-- A state whose entries have not settled and whose answers have not been given.
use Rattle.std.specs.Prelude.{ℕ, List}
use Rattle.sy_work.specs.Programs.{OutcomeOf}
use Rattle.sy_work.specs.declared.asks.Ask.{Ask}
use Rattle.sy_onecopy.specs.declared.Waits.{Waits}
use Rattle.sy_onecopy.specs.declared.Waits.TheVariants.{Ready}
use Rattle.sy_onecopy.specs.Each.{changed_at}
use Rattle.sy_onecopy.specs.State.{Board, State, Thread}
use Rattle.sy_onecopy.specs.Settle.{await, settle}
use Rattle.sy_onecopy.specs.Step.{apply, begin_ask, given, give_all, hear, threads_after, hear_answers}

abbrev pub state_of : Board → List Thread → State
state_of b xs = record { board = b; threads = xs }

-- the waits that are over are answered, and each answer that is due has reached its thread
abbrev pub give_and_hear : Board → List Thread → State
give_and_hear b xs = hear_answers (give_all b) xs

-- the state once its entries have settled, and each answer that is due has reached its thread
abbrev pub catch_up : OutcomeOf → State → State
catch_up out s = give_and_hear (settle out s.board) s.threads

-- thread t, which waits so, has heard that its wait is over
abbrev pub after_hear : State → ℕ → Waits → State
after_hear s t w = state_of (await s.board t Ready) (changed_at (hear (given s.board w)) t s.threads)

-- thread t has made the ask
abbrev pub after_ask : State → ℕ → Ask → State
after_ask s t q = state_of (apply (begin_ask s.board t) t q) (threads_after (apply (begin_ask s.board t) t q) q s.threads)
