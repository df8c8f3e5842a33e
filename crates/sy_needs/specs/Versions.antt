-- Whether a command with these needs makes a new version of a root, and whether it needs the current one.
use Rattle.std.specs.Prelude.{ℕ, Bool, not, ◌&&◌, ◌||◌, ◌==◌, nat_le, List}
use Rattle.std.specs.List.{list_any, list_all}
use Rattle.sy_access.specs.declared.access.Need.{Need}
use Rattle.sy_access.specs.Needs.{writes}

-- a need on the root writes
unfoldable pub renews : List Need → ℕ → Bool
renews needs b = list_any (λ n. n.buffer == b && writes n.mode) needs

-- a need has all of so many elements of the root
unfoldable pub covers : List Need → ℕ → ℕ → Bool
covers needs b count = list_any (λ n. n.buffer == b && n.from == 0 && nat_le count n.to) needs

-- all needs on the root have no_init
unfoldable pub forgoes : List Need → ℕ → Bool
forgoes needs b = list_all (λ n. not (n.buffer == b) || n.no_init) needs

-- the command does not need the current numbers of a root of so many elements
unfoldable pub replaces : List Need → ℕ → ℕ → Bool
replaces needs b count = covers needs b count && forgoes needs b
