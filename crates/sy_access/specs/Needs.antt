-- Which elements a need names, and which needs stand in one another's way.
use Rattle.std.specs.Prelude.{ℕ, Bool, true, false, not, ◌&&◌, ◌||◌, ◌==◌, nat_lt, nat_le}
use Rattle.sy_access.specs.declared.access.Mode.{Mode}
use Rattle.sy_access.specs.declared.access.Mode.TheVariants.{Read, Write, ReadWrite}
use Rattle.sy_access.specs.declared.access.Need.{Need}

abbrev pub reads : Mode → Bool
reads Read = true
reads Write = false
reads ReadWrite = true

abbrev pub writes : Mode → Bool
writes Read = false
writes Write = true
writes ReadWrite = true

-- the need has the element i of the root
unfoldable pub has_cell : Need → ℕ → ℕ → Bool
has_cell n root i = n.buffer == root && (nat_le n.from i && nat_lt i n.to)

-- the need has no element
abbrev pub is_empty : Need → Bool
is_empty n = nat_le n.to n.from

-- the runs of two needs share an element; one without elements counts as sharing one
abbrev pub shares : Need → Need → Bool
shares a b = is_empty a || (is_empty b || (nat_lt a.from b.to && nat_lt b.from a.to))

abbrev pub one_writes : Need → Need → Bool
one_writes a b = writes a.mode || writes b.mode

-- two needs name one root, share an element, and one of them writes
unfoldable pub conflict : Need → Need → Bool
conflict a b = a.buffer == b.buffer && (shares a b && one_writes a b)

-- two needs, the first in an entry at place p and the second at q, name one root at two places, and one writes
unfoldable pub is_apart : Need → ℕ → Need → ℕ → Bool
is_apart a p b q = a.buffer == b.buffer && (not (p == q) && one_writes a b)
