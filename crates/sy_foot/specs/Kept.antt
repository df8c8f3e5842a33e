-- What a sparse set keeps of each cell.
use Rattle.std.specs.Prelude.{◌≡◌, ℕ, length, Option}
use Rattle.sy_foot.specs.declared.entry.Entry.{Entry}
use Rattle.sy_foot.specs.declared.entries.Entries.{Entries}
use Rattle.sy_foot.specs.Sparse.{seen}

abbrev pub entry_at : Entries → ℕ → Option Entry
entry_at s c = seen s.index.items s.entries.items c

-- how many cells there is room for
abbrev pub cell_count : Entries → ℕ
cell_count s = length s.index.items

-- nothing is seen to change
pub record SameEntries (old new : Entries) : Type 0 where
  pub entry : (c : ℕ) → entry_at new c ≡ entry_at old c
  pub list : new.entries.items ≡ old.entries.items
