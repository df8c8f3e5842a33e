-- The state of the shared core, over a board that lags behind, and what it stands for.
use Rattle.std.specs.Prelude.{◌≡◌, ℕ, ℤ, Bool, true, List, length, Option, Some, None, IsSome}
use Rattle.sy_work.specs.Programs.{Program, Input}
use Rattle.sy_work.specs.declared.commands.Command.{Command}
use Rattle.sy_onecopy.specs.declared.Entry.{Entry}
use Rattle.sy_onecopy.specs.declared.Work.TheVariants.{Node}
use Rattle.sy_onecopy.specs.declared.Stage.TheVariants.{Granted}
use Rattle.sy_onecopy.specs.Copies.{uses}
use Rattle.sy_onecopy.specs.Outcome.{values_at, inputs}
use Rattle.sy_onecopy.specs.State.{Board, Thread}
use Rattle.sy_onecopy.specs.Sequence.{seq}
use Rattle.sy_settling.specs.Orderly.{IsAt, IsFreeAt, IsOrderly}
use Rattle.sy_sound.specs.Sound.{IsSound}
use Rattle.sy_lagging.specs.Lagging.{state_of, catch_up}
use Rattle.sy_coreboard.specs.Sources.{IsLive, HasSource}

-- a core but for its hosts: a board that lags behind, the current copies by place and buffer, what each command
-- that is out was given by the number of its entry, and the values of the copies that are out by place and buffer
pub record Core : Type 0 where
  pub board : Board
  pub copies : ℕ → ℕ → Option (List ℤ)
  pub out : ℕ → Option (List Input)
  pub moving : ℕ → ℕ → Option (List ℤ)

-- the root is needed at the entry's place
abbrev pub is_used : Board → Entry → ℕ → Bool
is_used b e r = uses e r (length (values_at b.buffers r))

-- each root that the entry needs is current at its place
abbrev pub HasCopies : Core → Entry → Type 0
HasCopies c e = (r : ℕ) → is_used c.board e r ≡ true → IsSome (c.copies e.place r)

-- a command that is out is an eligible node, was given the numbers of its elements, and has its copies
pub record IsOut (c : Core) (k : ℕ) (given : List Input) : Type 0 where
  pub entry : Entry
  pub node : ℕ
  pub queue : ℕ
  pub command : Command
  pub work : entry.work ≡ Node node queue command
  pub free : IsFreeAt c.board.entries k entry
  pub inputs : given ≡ inputs c.board.buffers entry.needs
  pub copies : HasCopies c entry

-- a copy that is out has its buffer's values, and an eligible entry needs it at a place that isn't current
pub record IsMoving (c : Core) (place r : ℕ) (values : List ℤ) : Type 0 where
  pub at : ℕ
  pub entry : Entry
  pub free : IsFreeAt c.board.entries at entry
  pub needed : is_used c.board entry r ≡ true
  pub placed : entry.place ≡ place
  pub none : c.copies place r ≡ None
  pub current : values ≡ values_at c.board.buffers r

-- what holds of the core whatever the program is
pub record IsKept (c : Core) : Type 0 where
  pub orderly : IsOrderly c.board
  pub sound : IsSound c.board
  -- every current copy equals its buffer
  pub copies : (p r : ℕ) (v : List ℤ) → c.copies p r ≡ Some v → v ≡ values_at c.board.buffers r
  pub out : (k : ℕ) (given : List Input) → c.out k ≡ Some given → IsOut c k given
  -- an open host access has its copies
  pub granted : (k : ℕ) (e : Entry) → IsAt c.board.entries k e → e.stage ≡ Granted → HasCopies c e
  pub moving : (p r : ℕ) (v : List ℤ) → c.moving p r ≡ Some v → IsMoving c p r v
  -- a root that may still be named is current at some place
  pub sources : (r : ℕ) → IsLive c.board r → HasSource c.copies r

-- the core stands for the program after this order of steps, with these threads
pub record StandsFor (p : Program) (order : List ℕ) (xs : List Thread) (c : Core) : Type 0 where
  pub reached : seq p order ≡ Some (catch_up p.outcome (state_of c.board xs))
  pub members : length xs ≡ length c.board.waits
  pub kept : IsKept c
