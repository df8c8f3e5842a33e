-- Which needs and nodes take the place of which in the lists by root.
use Rattle.std.specs.Prelude.{ℕ, Bool, not, ◌&&◌, ◌||◌, ◌==◌, nat_lt, nat_le}
use Rattle.std.specs.List.{list_any, list_all}
use Rattle.sy_access.specs.declared.access.Need.{Need}
use Rattle.sy_access.specs.Needs.{writes, is_empty}
use Rattle.sy_graph.specs.declared.node.Node.{Node}

-- the need a, of a node at place p, has elements, and the need b, of one at the same place, has them all
abbrev pub within : Need → ℕ → Need → ℕ → Bool
within a p b q = p == q && (nat_lt a.from a.to && (nat_le b.from a.from && nat_le a.to b.to))

-- the need b writes, and what meets the need a meets b as well
unfoldable pub covers : Need → ℕ → Need → ℕ → Bool
covers a p b q = a.buffer == b.buffer && (writes b.mode && (is_empty b || within a p b q))

-- a need of y covers the need a, of a node at place p
unfoldable pub covered : Need → ℕ → Node → Bool
covered a p y = list_any (λ b. covers a p b y.place) y.needs

-- y covers each need of x on the root
unfoldable pub superseded : Node → ℕ → Node → Bool
superseded x root y = list_all (λ a. not (a.buffer == root) || covered a x.place y) x.needs
