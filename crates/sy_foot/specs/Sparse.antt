-- What an index and a list of entries have of a cell: the entry at the position that the index names, where that
-- entry is of this cell.
use Rattle.std.specs.Prelude.{◌≡◌, ◌≢◌, ℕ, if◌then◌else◌, nat_eq, List, Option, Some, None, slice_get}
use Rattle.sy_foot.specs.declared.entry.Entry.{Entry}

abbrev pub own : ℕ → Option Entry → Option Entry
own c None = None
own c (Some e) = if nat_eq e.cell c then Some e else None

abbrev pub at_index : List Entry → ℕ → Option ℕ → Option Entry
at_index es c None = None
at_index es c (Some k) = own c (slice_get es k)

abbrev pub seen : List ℕ → List Entry → ℕ → Option Entry
seen index es c = at_index es c (slice_get index c)

-- each entry of the list is the one that is seen of its cell
abbrev pub IsPlaced : List ℕ → List Entry → Type 0
IsPlaced index es = (k : ℕ) (e : Entry) → slice_get es k ≡ Some e → slice_get index e.cell ≡ Some k

-- one entry is put, and every other cell keeps what it has
pub record Puts (old new : ℕ → Option Entry) (e : Entry) : Type 0 where
  pub here : new e.cell ≡ Some e
  pub others : (d : ℕ) → d ≢ e.cell → new d ≡ old d

abbrev pub entry_of : Option (ℕ × Entry) → Option Entry
entry_of None = None
entry_of (Some r) = Some r.1
