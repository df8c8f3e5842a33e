-- What each event of the core changes.
use Rattle.std.specs.Prelude.{◌≡◌, ◌≢◌, ◌<◌, ◌≤◌, ◌^◌, ◌-◌, ℕ, ℤ, Bool, true, false, if◌then◌else◌, ◌&&◌, ◌==◌, List, ◌∷◌, length, Option, Some, None, slice_get}
use Rattle.sy_access.specs.declared.access.Need.{Need}
use Rattle.sy_access.specs.Needs.{writes}
use Rattle.sy_work.specs.Programs.{Program, OutcomeOf, Input}
use Rattle.sy_work.specs.declared.asks.Ask.{Ask}
use Rattle.sy_work.specs.declared.asks.Ask.TheVariants.{CloseHost}
use Rattle.sy_work.specs.declared.commands.Outcome.{Outcome}
use Rattle.sy_onecopy.specs.declared.Entry.{Entry}
use Rattle.sy_onecopy.specs.declared.Stage.{Stage}
use Rattle.sy_onecopy.specs.declared.Stage.TheVariants.{Granted}
use Rattle.sy_onecopy.specs.Copies.{makes}
use Rattle.sy_onecopy.specs.Outcome.{values_at}
use Rattle.sy_onecopy.specs.Settle.{took, await, effect}
use Rattle.sy_onecopy.specs.State.{Thread, ask_of}
use Rattle.sy_onecopy.specs.Step.{apply, begin_ask, access_from}
use Rattle.sy_onecopy.specs.Sequence.{is_clear, goes_on}
use Rattle.sy_onecopy.specs.declared.Waits.TheVariants.{Ready}
use Rattle.sy_coreboard.specs.Core.{Core}
use Rattle.sy_coreboard.specs.Sources.{IsLive, HasSource}

-- ---- asks

-- the ask closes no host access
abbrev pub keeps_copies : Ask → Bool
keeps_copies (CloseHost k values) = false
keeps_copies q = true

-- thread t may make its ask now, which is its next one
pub record CanAsk (p : Program) (xs : List Thread) (c : Core) (t : ℕ) (q : Ask) : Type 0 where
  pub thread : Thread
  pub here : slice_get xs t ≡ Some thread
  pub next : q ≡ ask_of p.next thread
  pub ready : slice_get c.board.waits t ≡ Some Ready
  pub clear : is_clear c.board q ≡ true
  pub goes_on : goes_on c.board ≡ true
  pub early : c.board.steps < 2 ^ 24

-- the access that a CloseHost closes: where it stands, its entry and its need
pub record ClosedAccess : Type 0 where
  pub at : ℕ
  pub entry : Entry
  pub need : Need

abbrev pub closed_access_by : ℕ → Entry → List ℤ → Stage → List Need → Option ClosedAccess
closed_access_by j x values Granted (n ∷ ns) = if length values == n.to - n.from then Some (record { at = j; entry = x; need = n }) else None
closed_access_by j x values s ns = None

abbrev pub closed_access_at : ℕ → List ℤ → Option Entry → Option ClosedAccess
closed_access_at j values None = None
closed_access_at j values (Some x) = closed_access_by j x values x.stage x.needs

abbrev pub closed_access_found : List Entry → List ℤ → Option ℕ → Option ClosedAccess
closed_access_found entries values None = None
closed_access_found entries values (Some j) = closed_access_at j values (slice_get entries j)

-- the access of thread t that is closed with these numbers, if one is
unfoldable pub closed_access : List Entry → ℕ → ℕ → List ℤ → Option ClosedAccess
closed_access entries t k values = closed_access_found entries values (access_from 0 entries t k)

-- ---- events

-- thread t makes an ask that changes no copies of the buffers that are there; those of a new one have its numbers
pub record Asks (old new : Core) (t : ℕ) (q : Ask) : Type 0 where
  pub board : new.board ≡ apply (begin_ask old.board t) t q
  pub copies : (p r : ℕ) → r < length old.board.buffers → new.copies p r ≡ old.copies p r
  pub fresh : (p r : ℕ) (v : List ℤ) → length old.board.buffers ≤ r → new.copies p r ≡ Some v → v ≡ values_at new.board.buffers r
  pub out : (j : ℕ) → new.out j ≡ old.out j
  pub moving : (p r : ℕ) → new.moving p r ≡ old.moving p r
  -- and a new root is current at some place
  pub sources : (r : ℕ) → length old.board.buffers ≤ r → IsLive new.board r → HasSource new.copies r

-- the command of the entry at k begins with this
pub record Begins (old new : Core) (k : ℕ) (given : List Input) : Type 0 where
  pub board : new.board ≡ old.board
  pub copies : (p r : ℕ) → new.copies p r ≡ old.copies p r
  pub out : (j : ℕ) → new.out j ≡ (if j == k then Some given else old.out j)
  pub moving : (p r : ℕ) → new.moving p r ≡ old.moving p r

-- the copy of the buffer to the place begins with these values
pub record Moves (old new : Core) (place buffer : ℕ) (values : List ℤ) : Type 0 where
  pub board : new.board ≡ old.board
  pub copies : (p r : ℕ) → new.copies p r ≡ old.copies p r
  pub out : (j : ℕ) → new.out j ≡ old.out j
  pub moving : (p r : ℕ) → new.moving p r ≡ (if r == buffer && p == place then Some values else old.moving p r)

-- the copy of the buffer to the place is installed
pub record Installs (old new : Core) (place buffer : ℕ) (values : List ℤ) : Type 0 where
  pub board : new.board ≡ old.board
  pub copies : (p r : ℕ) → new.copies p r ≡ (if r == buffer && p == place then Some values else old.copies p r)
  pub out : (j : ℕ) → new.out j ≡ old.out j
  pub moving : (p r : ℕ) → new.moving p r ≡ (if r == buffer && p == place then None else old.moving p r)

-- new versions of some roots stand at the place alone, with the numbers that the board has
pub record Publishes (old new : Core) (place : ℕ) (made : ℕ → Bool) : Type 0 where
  pub renewed : (r : ℕ) → made r ≡ true → new.copies place r ≡ Some (values_at new.board.buffers r)
  pub elsewhere : (p r : ℕ) → made r ≡ true → p ≢ place → new.copies p r ≡ None
  pub others : (p r : ℕ) → made r ≡ false → new.copies p r ≡ old.copies p r

-- what a closed access leaves: where it writes, a new version at its place
abbrev pub Renews : Core → Core → Option ClosedAccess → Type 0
Renews old new None = (p r : ℕ) → new.copies p r ≡ old.copies p r
Renews old new (Some c) = Publishes old new c.entry.place (λ r. c.need.buffer == r && writes c.need.mode)

-- thread t closes its access k with these numbers
pub record Closes (old new : Core) (t k : ℕ) (values : List ℤ) : Type 0 where
  pub board : new.board ≡ apply (begin_ask old.board t) t (CloseHost k values)
  pub copies : Renews old new (closed_access old.board.entries t k values)
  pub out : (j : ℕ) → new.out j ≡ old.out j
  pub moving : (p r : ℕ) → new.moving p r ≡ old.moving p r

-- the host access or end of a buffer at k takes effect
pub record Takes (old new : Core) (k : ℕ) (e : Entry) : Type 0 where
  pub board : (out : OutcomeOf) → new.board ≡ effect out old.board k e e.work
  pub copies : (p r : ℕ) → new.copies p r ≡ old.copies p r
  pub out : (j : ℕ) → new.out j ≡ old.out j
  pub moving : (p r : ℕ) → new.moving p r ≡ old.moving p r

-- thread t, which waits so, hears that its wait is over
pub record Hears (old new : Core) (t : ℕ) : Type 0 where
  pub board : new.board ≡ await old.board t Ready
  pub copies : (p r : ℕ) → new.copies p r ≡ old.copies p r
  pub out : (j : ℕ) → new.out j ≡ old.out j
  pub moving : (p r : ℕ) → new.moving p r ≡ old.moving p r

-- the command of the entry e at k has this outcome
pub record Finishes (old new : Core) (k : ℕ) (e : Entry) (outcome : Outcome) : Type 0 where
  pub board : new.board ≡ took old.board k e.needs outcome
  pub copies : Publishes old new e.place (makes e)
  pub out : (j : ℕ) → new.out j ≡ (if j == k then None else old.out j)
  pub moving : (p r : ℕ) → new.moving p r ≡ old.moving p r

-- the buffer has no copies from now on
pub record Drops (old new : Core) (buffer : ℕ) : Type 0 where
  pub board : new.board ≡ old.board
  pub copies : (p r : ℕ) → new.copies p r ≡ (if r == buffer then None else old.copies p r)
  pub out : (j : ℕ) → new.out j ≡ old.out j
  pub moving : (p r : ℕ) → new.moving p r ≡ old.moving p r
