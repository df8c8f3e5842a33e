-- What the earlier groups did to each cell that groups share.
use Rattle.std.specs.Prelude.{Bool, true, false, if◌then◌else◌, List, [], ◌∷◌, Option, Some, None, slice_set}
use Rattle.sy_foot.specs.declared.entry.Entry.{Entry}
use Rattle.sy_foot.specs.declared.earlier.State.{State}
use Rattle.sy_foot.specs.declared.earlier.State.TheVariants.{Untouched, Read, Written}

-- a touch meets what earlier groups did: one of the two is a write
abbrev pub state_meets : Bool → Option State → Bool
state_meets writes None = false
state_meets writes (Some Untouched) = false
state_meets writes (Some Read) = writes
state_meets writes (Some Written) = true

abbrev pub state_of : Bool → State
state_of wrote = if wrote then Written else Read

-- the state of a cell, after a group that has this entry of it
abbrev pub state_after : Option State → Option Entry → Option State
state_after None entry = None
state_after (Some s) None = Some s
state_after (Some s) (Some e) = Some (state_of e.wrote)

-- the states after a group with these entries
abbrev pub joined : List State → List Entry → List State
joined states [] = states
joined states (e ∷ es) = joined (slice_set states e.cell (state_of e.wrote)) es
