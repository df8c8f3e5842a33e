-- The cells that a group wrote, in the order of their first writes.
use Rattle.std.specs.Prelude.{◌≡◌, ℕ, ℤ, Bool, true, false, if◌then◌else◌, not, nat_eq, nat_lt, pos, ◌&&◌, ◌++◌, List, [], ◌∷◌, Option, Some, None}
use Rattle.std.specs.List.{list_any}
use Rattle.sy_foot.specs.declared.entry.Entry.{Entry}

-- the number in the cell
abbrev pub number_of : ℤ → Option Entry → ℤ
number_of opening None = opening
number_of opening (Some e) = e.number

abbrev pub is_written : Option Entry → Bool
is_written None = false
is_written (Some e) = e.wrote

-- the cells in the order of their first writes, after a write
abbrev pub first_written : Bool → List ℕ → ℕ → List ℕ
first_written wrote cells c = if wrote then cells else cells ++ c ∷ []

abbrev pub is_listed : ℕ → List ℕ → Bool
is_listed c cells = list_any (nat_eq c) cells

-- no cell is listed twice
abbrev pub are_distinct : List ℕ → Bool
are_distinct [] = true
are_distinct (c ∷ cs) = not (is_listed c cs) && are_distinct cs

-- the cells are those that the entries say were written, each once
pub record AreFirstWrites (cells : List ℕ) (entries : ℕ → Option Entry) : Type 0 where
  pub once : are_distinct cells ≡ true
  pub told : (c : ℕ) → is_written (entries c) ≡ is_listed c cells

-- these cells with their numbers, as far as groups share them
abbrev pub shared_writes : ℕ → (ℕ → Option Entry) → List ℕ → List (ℕ × ℤ)
shared_writes shared entries [] = []
shared_writes shared entries (c ∷ cs) =
    if nat_lt c shared then (c, number_of (pos 0) (entries c)) ∷ shared_writes shared entries cs else shared_writes shared entries cs
