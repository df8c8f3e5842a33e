-- Boards whose entries may not have settled yet.
use Rattle.std.specs.Prelude.{◌≡◌, ◌≤◌, ℕ, Bool, true, false, nat_lt, List, [], ◌∷◌, length, map, take, Option, Some, None, slice_get}
use Rattle.std.specs.List.{list_all}
use Rattle.sy_access.specs.declared.access.Need.{Need}
use Rattle.sy_work.specs.Programs.{OutcomeOf}
use Rattle.sy_work.specs.declared.asks.Ask.{Ask}
use Rattle.sy_onecopy.specs.declared.Buffer.{Buffer}
use Rattle.sy_onecopy.specs.declared.Origin.{Origin}
use Rattle.sy_onecopy.specs.declared.Entry.{Entry}
use Rattle.sy_onecopy.specs.declared.Work.{Work}
use Rattle.sy_onecopy.specs.declared.Work.TheVariants.{Node, Access, End}
use Rattle.sy_onecopy.specs.declared.Stage.TheVariants.{Pending, Granted}
use Rattle.sy_onecopy.specs.declared.Waits.{Waits}
use Rattle.sy_onecopy.specs.declared.Waits.TheVariants.{OnEntry, OnQueue}
use Rattle.sy_onecopy.specs.Before.{is_pending, is_held, is_free}
use Rattle.sy_onecopy.specs.State.{Board}
use Rattle.sy_onecopy.specs.Settle.{with_stage, settle}
use Rattle.sy_onecopy.specs.Step.{whole, give_all, once_heard}
use Rattle.sy_onecopy.specs.Sequence.{is_clear}

-- this entry stands at k
abbrev pub IsAt : List Entry → ℕ → Entry → Type 0
IsAt entries k e = slice_get entries k ≡ Some e

-- this entry stands at k and is pending
abbrev pub IsPendingAt : List Entry → ℕ → Entry → Type 0
IsPendingAt entries k e = IsAt entries k e × (is_pending e.stage ≡ true)

-- this entry stands at k and may take effect
abbrev pub IsFreeAt : List Entry → ℕ → Entry → Type 0
IsFreeAt entries k e = IsAt entries k e × (is_free entries k e ≡ true)

-- the thread that asked for the entry waits for its effect
abbrev pub waiter : Work → Option ℕ
waiter (Node n q c) = None
waiter (Access t k) = Some t
waiter (End t r) = Some t

-- the needs are on buffers that are there
unfoldable pub are_there : ℕ → List Need → Bool
are_there count needs = list_all (λ n. nat_lt n.buffer count) needs

-- the end of buffer r needs all elements of it
pub record NeedsWhole (buffers : List Buffer) (r : ℕ) (needs : List Need) : Type 0 where
  pub buffer : Buffer
  pub found : slice_get buffers r ≡ Some buffer
  pub all : needs ≡ whole r buffer ∷ []

-- what holds of the boards of legal orders, however far their entries have settled
pub record IsOrderly (b : Board) : Type 0 where
  -- the thread of a pending host access or end waits
  pub awaited : (k t : ℕ) (e : Entry) → IsPendingAt b.entries k e → waiter e.work ≡ Some t → slice_get b.waits t ≡ Some OnEntry
  -- for one entry
  pub alone : (j k t : ℕ) (x y : Entry) → IsPendingAt b.entries j x → IsPendingAt b.entries k y → waiter x.work ≡ Some t → waiter y.work ≡ Some t → j ≡ k
  -- the buffers that a pending entry needs are there
  pub there : (k : ℕ) (e : Entry) → IsPendingAt b.entries k e → are_there (length b.buffers) e.needs ≡ true
  -- and the end of one needs all of it
  pub whole : (k t r : ℕ) (e : Entry) → IsPendingAt b.entries k e → e.work ≡ End t r → NeedsWhole b.buffers r e.needs
  -- an open host access waits for nothing
  pub open_first : (k : ℕ) (e : Entry) → IsAt b.entries k e → e.stage ≡ Granted → is_held (take k b.entries) e ≡ false
  -- a thread that waits for a queue waits for nodes that are there
  pub queued : (t q n : ℕ) → slice_get b.waits t ≡ Some (OnQueue q n) → n ≤ b.nodes

-- the thread is there and waits for no entry
abbrev pub is_idle : Option Waits → Bool
is_idle None = false
is_idle (Some OnEntry) = false
is_idle (Some w) = true

-- the thread may make the ask: it waits for no entry, and a throw of a queue waits for the nodes of that queue
pub record MayAsk (b : Board) (t : ℕ) (q : Ask) : Type 0 where
  pub idle : is_idle (slice_get b.waits t) ≡ true
  pub clear : is_clear b q ≡ true

-- a buffer but for its numbers
abbrev pub shape : Buffer → ℕ × Origin × Bool
shape x = (length x.values, x.origin, x.ended)

-- two boards are alike but for the elements of buffers, the stages of entries, and what threads wait for
pub record IsAlike (b c : Board) : Type 0 where
  pub buffers : map shape b.buffers ≡ map shape c.buffers
  pub queues : b.queues ≡ c.queues
  pub places : b.places ≡ c.places
  pub entries : map (with_stage Pending) b.entries ≡ map (with_stage Pending) c.entries
  pub nodes : b.nodes ≡ c.nodes
  pub threads : length b.waits ≡ length c.waits
  pub output : b.output ≡ c.output
  pub ended : b.ended ≡ c.ended
  pub steps : b.steps ≡ c.steps

-- the answers that are given reach their threads
abbrev pub heard : Board → Board
heard b = record b { waits = map once_heard b.waits }

-- the board with no deferred effect: its entries have settled, and each answer that is due has reached its thread
abbrev pub quiesce : OutcomeOf → Board → Board
quiesce out b = heard (give_all (settle out b))
