-- Which roots may still be named, and where a copy can be taken from.
use Rattle.std.specs.Prelude.{◌≡◌, ◌⊎◌, ℕ, ℤ, true, false, List, Option, Some, IsSome, slice_get}
use Rattle.sy_onecopy.specs.declared.Buffer.{Buffer}
use Rattle.sy_onecopy.specs.declared.Entry.{Entry}
use Rattle.sy_onecopy.specs.Before.{is_done}
use Rattle.sy_onecopy.specs.Copies.{names}
use Rattle.sy_onecopy.specs.State.{Board}
use Rattle.sy_onecopy.specs.Step.{is_part}
use Rattle.sy_settling.specs.Orderly.{IsAt}

-- an entry that isn't done names the root
pub record IsWanted (b : Board) (r : ℕ) : Type 0 where
  pub place : ℕ
  pub entry : Entry
  pub at : IsAt b.entries place entry
  pub undone : is_done entry.stage ≡ false
  pub named : names entry r ≡ true

-- an entry may still name the root: it hasn't ended, or one that isn't done does
pub record IsLive (b : Board) (r : ℕ) : Type 0 where
  pub root : Buffer
  pub there : slice_get b.buffers r ≡ Some root
  pub own : is_part root.origin ≡ false
  pub wanted : (root.ended ≡ false) ⊎ IsWanted b r

-- the root is current at some place
abbrev pub HasSource : (ℕ → ℕ → Option (List ℤ)) → ℕ → Type 0
HasSource copies r = (p : ℕ) × IsSome (copies p r)
