-- What a history of steps says beside the entries: the first numbers of buffers, and those that accesses were closed with.
use Rattle.std.specs.Prelude.{ℕ, ℤ, Bool, false, not, ◌&&◌, ◌==◌, if◌then◌else◌, List, [], ◌∷◌, ◌++◌, length, drop, Option, Some, None, slice_get}
use Rattle.sy_work.specs.Programs.{Program, OutcomeOf}
use Rattle.sy_work.specs.declared.asks.Ask.{Ask}
use Rattle.sy_work.specs.declared.asks.Ask.TheVariants.{CloseHost}
use Rattle.sy_onecopy.specs.declared.Buffer.{Buffer}
use Rattle.sy_onecopy.specs.declared.Entry.{Entry}
use Rattle.sy_onecopy.specs.State.{Board, State, start, next_ask}
use Rattle.sy_onecopy.specs.Before.{is_done}
use Rattle.sy_onecopy.specs.Step.{access_from, apply, begin_ask, step}
use Rattle.sy_inorder.specs.Sequential.{execute, is_any, is_over}

pub record Ledger : Type 0 where
  -- the buffers as they were made
  pub made : List Buffer
  -- the places of the accesses that were closed, each with the numbers that it was closed with
  pub closings : List (ℕ × List ℤ)

-- the numbers that the access at k was closed with: none, if it is still open
abbrev pub closed_with : List (ℕ × List ℤ) → ℕ → List ℤ
closed_with [] k = []
closed_with (c ∷ cs) k = if c.0 == k then c.1 else closed_with cs k

-- the entry is there, and done
abbrev pub over_at : Option Entry → Bool
over_at None = false
over_at (Some e) = is_done e.stage

-- the access at k with these numbers, if it was not done before and is after
abbrev pub closing_at : List Entry → List Entry → List ℤ → Option ℕ → List (ℕ × List ℤ)
closing_at before after values None = []
closing_at before after values (Some k) =
    if not (over_at (slice_get before k)) && over_at (slice_get after k) then (k, values) ∷ [] else []

-- the access that a close by thread t takes from open to done, with the numbers that it is given
unfoldable pub closing : List Entry → List Entry → ℕ → Ask → List (ℕ × List ℤ)
closing before after t (CloseHost i values) = closing_at before after values (access_from 0 before t i)
closing before after t q = []

-- the board as the ask of thread t leaves it, before anything settles
abbrev pub asked : Board → ℕ → Ask → Board
asked b t q = apply (begin_ask b t) t q

-- the ledger after the ask: with the buffers that it adds, and the access that it closes
unfoldable pub noted : Ledger → Board → ℕ → Ask → Ledger
noted l b t q =
    record {
      made = l.made ++ drop (length b.buffers) (asked b t q).buffers;
      closings = closing b.entries (asked b t q).entries t q ++ l.closings;
    }

-- nothing is made yet
abbrev pub empty : Ledger
empty = record { made = []; closings = [] }

-- the ledger after further steps
abbrev pub ledger_from : Program → State → Ledger → List ℕ → Ledger
ledger_from p s l [] = l
ledger_from p s l (t ∷ ts) = ledger_from p (step p s t) (noted l s.board t (next_ask p s t)) ts

-- the ledger of an order of steps
abbrev pub ledger_of : Program → List ℕ → Ledger
ledger_of p order = ledger_from p (start p) empty order

-- what the buffers hold after all these entries, done one after another in their order
abbrev pub execute_all : OutcomeOf → Ledger → List Entry → List Buffer
execute_all out l entries = execute (record { out = out; given = closed_with l.closings; includes = is_any }) 0 entries l.made

-- the same with those alone that are done
abbrev pub execute_done : OutcomeOf → Ledger → List Entry → List Buffer
execute_done out l entries = execute (record { out = out; given = closed_with l.closings; includes = is_over }) 0 entries l.made
