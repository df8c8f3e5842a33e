-- Where entries take effect in a sequence of steps.
use Rattle.std.specs.Prelude.{◌≡◌, ℕ, true, List, Some, slice_get}
use Rattle.sy_work.specs.Programs.{Program}
use Rattle.sy_onecopy.specs.declared.Entry.{Entry}
use Rattle.sy_onecopy.specs.State.{Board, State, next_ask}
use Rattle.sy_onecopy.specs.Before.{is_free}
use Rattle.sy_onecopy.specs.Settle.{settle_upto}
use Rattle.sy_onecopy.specs.Step.{turn}
use Rattle.sy_onecopy.specs.Sequence.{seq, is_legal}
use Rattle.sy_inorder.specs.Ledger.{asked}

-- in state s, after these steps, thread t makes a step, in which entry e, at place k, takes effect on board m
pub record TakesEffect (p : Program) (order : List ℕ) (s : State) (t k : ℕ) (e : Entry) (m : Board) : Type 0 where
  pub legal : seq p order ≡ Some s
  pub may : is_legal p s t ≡ true
  pub pass : m ≡ settle_upto p.outcome (asked s.board t (next_ask p s t)) k
  pub there : slice_get m.entries k ≡ Some e
  pub free : is_free m.entries k e ≡ true

-- the board after the turn of thread t
abbrev pub turned : Program → State → ℕ → Board
turned p s t = turn p.outcome s.board t (next_ask p s t)
