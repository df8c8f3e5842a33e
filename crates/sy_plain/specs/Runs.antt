-- What a run begins with, and how a board and hosts stand for a state.
use Rattle.std.specs.Prelude.{◌≡◌, ℕ, suc, ℤ, true, if◌then◌else◌, List, [], ◌∷◌, length, Option, Some, None, slice_get}
use Rattle.sy_work.specs.Programs.{Program, NextAsk, OutcomeOf}
use Rattle.sy_work.specs.declared.asks.Ask.{Ask}
use Rattle.sy_work.specs.declared.asks.Answer.{Answer}
use Rattle.sy_work.specs.declared.commands.Command.{Command}
use Rattle.sy_onecopy.specs.State.{Board, Thread, State, start, ask_of, next_ask}
use Rattle.sy_onecopy.specs.Sequence.{ready_at, is_legal, seq, IsSerial}
use Rattle.sy_sound.specs.Known.{Knows}
use Rattle.sy_sound.specs.Agree.{AgreeOn}
use Rattle.sy_board.specs.Turns.{may_go}

-- the program's known commands do this on inputs that fit them, and the host is at the begin of its main
pub record Begins {H : Type 0} (stands : H → NextAsk → ℕ → List ℤ → List Answer → Type 0) (knows : Command → Type 0) (out : OutcomeOf) (p : Program) (main : H) : Type 0 where
  pub at : stands main p.next p.main [] []
  pub outcome : AgreeOn knows p.outcome out

-- the host at u stands for the thread, with the thread's next ask open
pub record StandsAt {H : Type 0} (pending : H → Option Ask) (stands : H → NextAsk → ℕ → List ℤ → List Answer → Type 0) (next : NextAsk) (hosts : List H) (u : ℕ) (x : Thread) : Type 0 where
  pub host : H
  pub here : slice_get hosts u ≡ Some host
  pub at : stands host next x.body x.captures x.answers
  pub open_ask : pending host ≡ Some (ask_of next x)

-- a board, hosts, and the asks of threads that are ready stand for a state of the program
pub record Hold {H : Type 0} (pending : H → Option Ask) (stands : H → NextAsk → ℕ → List ℤ → List Answer → Type 0) (p : Program) (b : Board) (hosts : List H) (asks : List (Option Ask)) (s : State) : Type 0 where
  pub board : b ≡ s.board
  pub hosts_count : length hosts ≡ length b.waits
  pub asks_count : length asks ≡ length b.waits
  pub stand : (u : ℕ) (x : Thread) → slice_get s.threads u ≡ Some x → StandsAt pending stands p.next hosts u x
  pub kept : (u : ℕ) → ready_at (slice_get b.waits u) ≡ true → slice_get asks u ≡ Some (Some (next_ask p s u))

-- a board and hosts stand for the state after this order of steps, each of the least thread that may step
pub record Reached {H : Type 0} (pending : H → Option Ask) (stands : H → NextAsk → ℕ → List ℤ → List Answer → Type 0) (p : Program) (b : Board) (hosts : List H) (asks : List (Option Ask)) (order : List ℕ) : Type 0 where
  pub state : State
  pub legal : seq p order ≡ Some state
  pub holds : Hold pending stands p b hosts asks state
  pub serial : IsSerial p (start p) order

-- thread t may step where a board and hosts stand
pub record CanStep {H : Type 0} (pending : H → Option Ask) (stands : H → NextAsk → ℕ → List ℤ → List Answer → Type 0) (out : OutcomeOf) (knows : Command → Type 0) (b : Board) (hosts : List H) (asks : List (Option Ask)) (t : ℕ) : Type 0 where
  pub program : Program
  pub outcome : AgreeOn knows program.outcome out
  pub known : Knows knows program
  pub order : List ℕ
  pub state : State
  pub reached : seq program order ≡ Some state
  pub legal : is_legal program state t ≡ true
  pub holds : Hold pending stands program b hosts asks state

-- the least thread from k on that may step with its ask
abbrev pub least : Board → ℕ → List (Option Ask) → Option ℕ
least b k [] = None
least b k (o ∷ os) = if may_go b k o then Some k else least b (suc k) os
