-- What the earlier groups are seen to have done.
use Rattle.std.specs.Prelude.{ℕ, ℤ, Bool, List, Option, slice_get}
use Rattle.sy_foot.specs.declared.earlier.State.{State}
use Rattle.sy_foot.specs.declared.earlier.EarlierGroups.{EarlierGroups}
use Rattle.sy_foot.specs.Earlier.{state_meets}

-- what they did to the cells that groups share
abbrev pub states_of : EarlierGroups → List State
states_of g = g.states.items

-- what they did to a cell, if groups share it
abbrev pub state_at : EarlierGroups → ℕ → Option State
state_at g c = slice_get (states_of g) c

-- a touch of the cell clashes with one of theirs
abbrev pub meets_at : EarlierGroups → ℕ → Bool → Bool
meets_at g c writes = state_meets writes (state_at g c)

-- what they wrote to these cells, in the order of the cells' first writes
abbrev pub writes_of : EarlierGroups → List (ℕ × ℤ)
writes_of g = g.log.items
