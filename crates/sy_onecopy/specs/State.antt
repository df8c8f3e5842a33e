-- The states of the machine.
use Rattle.std.specs.Prelude.{ℕ, ℤ, List, [], ◌∷◌, Option, Some, None, slice_get}
use Rattle.sy_work.specs.declared.asks.Ask.{Ask}
use Rattle.sy_work.specs.declared.asks.Ask.TheVariants.{Barrier}
use Rattle.sy_work.specs.declared.asks.Answer.{Answer}
use Rattle.sy_work.specs.declared.endings.Ending.{Ending}
use Rattle.sy_work.specs.Programs.{Program, NextAsk}
use Rattle.sy_onecopy.specs.declared.Buffer.{Buffer}
use Rattle.sy_onecopy.specs.declared.Queue.{Queue}
use Rattle.sy_onecopy.specs.declared.Entry.{Entry}
use Rattle.sy_onecopy.specs.declared.Waits.{Waits}
use Rattle.sy_onecopy.specs.declared.Waits.TheVariants.{Ready}

-- what a step reads and changes beside the answers of the threads
pub record Board : Type 0 where
  pub buffers : List Buffer
  pub queues : List Queue
  -- the places so far: 0 is the host, 1 the default context, and each further context has the next
  pub places : ℕ
  -- nodes, host accesses and ends of buffers, in the order in which they were asked for
  pub entries : List Entry
  -- how many of the entries are nodes
  pub nodes : ℕ
  -- what each thread waits for
  pub waits : List Waits
  -- the bytes printed
  pub output : List ℕ
  -- how a step has ended the run, if one has
  pub ended : Option Ending
  -- the steps made so far
  pub steps : ℕ

-- a thread: its body, what the body captured, and the answers that it was given
pub record Thread : Type 0 where
  pub body : ℕ
  pub captures : List ℤ
  pub answers : List Answer

pub record State : Type 0 where
  pub board : Board
  pub threads : List Thread

-- thread 0 is ready, and nothing else is there
abbrev pub opening : Board
opening = record {
  buffers = [];
  queues = [];
  places = 2;
  entries = [];
  nodes = 0;
  waits = Ready ∷ [];
  output = [];
  ended = None;
  steps = 0;
}

abbrev pub new_thread : ℕ → List ℤ → Thread
new_thread body captures = record { body = body; captures = captures; answers = [] }

-- thread 0 is on the body of main
abbrev pub start : Program → State
start p = record { board = opening; threads = new_thread p.main [] ∷ [] }

-- what the thread asks next
abbrev pub ask_of : NextAsk → Thread → Ask
ask_of next x = next x.body x.captures x.answers

-- the same; of a thread that is not there an ask that does not hold together
abbrev pub ask_by : NextAsk → Option Thread → Ask
ask_by next None = Barrier 0 0
ask_by next (Some x) = ask_of next x

abbrev pub next_ask : Program → State → ℕ → Ask
next_ask p s t = ask_by p.next (slice_get s.threads t)
