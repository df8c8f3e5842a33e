-- What the lists by keys have.
use Rattle.std.specs.Prelude.{ℕ, Bool, true, false, List, []}
use Rattle.std.specs.Option.{option_map_or}
use Rattle.std.specs.Ordering.{nat_cmp}
use Rattle.std.specs.BTreeMap.{get}
use Rattle.sy_index.specs.declared.lists.Lists.{Lists}
use Rattle.sy_index.specs.declared.roots.Roots.{Roots}

-- the numbers of the key
abbrev pub listed : Lists → ℕ → List ℕ
listed s k = option_map_or (λ v. v.items) (get nat_cmp s.lists k) []

-- the nodes that are listed for needs on the root that write, or for those that only read
abbrev pub by_root : Roots → Bool → ℕ → List ℕ
by_root s true root = listed s.writers root
by_root s false root = listed s.readers root
