-- What a run holds: locals, vectors, host accesses, scopes, threads, and the command group.
use Rattle.std.specs.List.{list_any}
use Rattle.std.specs.Prelude.{Bool, List, None, Option, Some, [], drop, false, if◌then◌else◌, length, map, slice_index_or, slice_set, suc, sum_by, unwrap_or, zero, ℕ, ℤ, ◌++◌, ◌==◌, ◌∷◌}
use Rattle.sy_meaning.specs.declared.runs.Group.{Group}
use Rattle.sy_meaning.specs.declared.runs.Live.{Live}
use Rattle.sy_meaning.specs.declared.runs.Row.{Row}
use Rattle.sy_meaning.specs.declared.runs.Run.{Run}
use Rattle.sy_meaning.specs.declared.runs.Scope.{Scope}
use Rattle.sy_meaning.specs.declared.runs.World.{World}
use Rattle.sy_meaning.specs.Words.{Object, nothing}

-- ---- locals, by the numbers of their declarations

abbrev pub local : ℕ → Run → Object
local n r = slice_index_or r.frame n nothing

-- the frame with the object at this index, filled up to it
abbrev pub put_at : ℕ → Object → List Object → List Object
put_at zero o [] = o ∷ []
put_at zero o (x ∷ xs) = o ∷ xs
put_at (suc n) o [] = nothing ∷ put_at n o []
put_at (suc n) o (x ∷ xs) = x ∷ put_at n o xs

abbrev pub put : ℕ → Object → Run → Run
put n o r = record r { frame = put_at n o r.frame }

-- ---- vectors

abbrev pub no_row : Row
no_row = record { values = []; counts = false; leased = None }

abbrev pub row_at : ℕ → World → Row
row_at v w = slice_index_or w.rows v no_row

abbrev pub put_row : ℕ → Row → World → World
put_row v row w = record w { rows = slice_set w.rows v row }

abbrev pub put_values : ℕ → List ℤ → World → World
put_values v values w = put_row v (record (row_at v w) { values = values }) w

-- from now on the buffer is over the vector
abbrev pub lease : ℕ → ℕ → World → World
lease b v w = put_row v (record (row_at v w) { leased = Some b }) w

abbrev pub is_over : ℕ → Option ℕ → Bool
is_over b None = false
is_over b (Some c) = b == c

-- the numbers that came back stand at the front
abbrev pub given_back : ℕ → List ℤ → Row → Row
given_back b values row =
    if is_over b row.leased then record row { values = values ++ drop (length values) row.values; leased = None } else row

-- the buffer has ended: the vector that it is over gets the contents and is free
abbrev pub give_back : ℕ → List ℤ → World → World
give_back b values w = record w { rows = map (given_back b values) w.rows }

abbrev pub counted : Row → ℕ
counted row = if row.counts then length row.values else 0

-- how many elements the live vectors of integers have
abbrev pub elements : World → ℕ
elements w = sum_by counted w.rows

-- ---- host accesses

abbrev pub access_at : ℕ → World → List ℤ
access_at k w = slice_index_or w.accesses k []

abbrev pub put_access : ℕ → List ℤ → World → World
put_access k values w = record w { accesses = slice_set w.accesses k values }

-- ---- scopes (C++17, "Storage duration")

abbrev pub opened : World → World
opened w = record w { scopes = record { live = [] } ∷ w.scopes }

abbrev pub first_scope : List Scope → List Live
first_scope [] = []
first_scope (s ∷ ss) = s.live

-- the scopes with these in the innermost one
abbrev pub with_first : List Live → List Scope → List Scope
with_first live [] = record { live = live } ∷ []
with_first live (s ∷ ss) = record { live = live } ∷ ss

abbrev pub outer : List Scope → List Scope
outer [] = []
outer (s ∷ ss) = ss

-- what is to be ended with the innermost scope
abbrev pub living : World → List Live
living w = first_scope w.scopes

abbrev pub with_living : List Live → World → World
with_living live w = record w { scopes = with_first live w.scopes }

abbrev pub lives : Live → World → World
lives x w = with_living (x ∷ living w) w

abbrev pub left : World → World
left w = record w { scopes = outer w.scopes }

-- ---- threads

abbrev pub is_joined : ℕ → World → Bool
is_joined t w = list_any (λ u. u == t) w.joined

abbrev pub joined : ℕ → World → World
joined t w = record w { joined = t ∷ w.joined }

-- ---- the command group

abbrev pub no_group : Group
no_group = record { needs = []; locals = []; after = []; reduced = []; command = None }

abbrev pub group_of : World → Group
group_of w = unwrap_or w.group no_group

abbrev pub put_group : Group → World → World
put_group g w = record w { group = Some g }

abbrev pub no_longer : World → World
no_longer w = record w { group = None }
