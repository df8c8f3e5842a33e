-- Which nodes come before which, and which are ready.
use Rattle.std.specs.Prelude.{◌≡◌, ℕ, ◌<◌, Bool, false, not, ◌==◌, List, take, Option, Some, None, slice_get}
use Rattle.std.specs.List.{list_any, enumerate_from}
use Rattle.sy_graph.specs.declared.node.Node.{Node}
use Rattle.sy_needs.specs.Order.{needs_meet, is_before}

-- a need of the one and a need of the other conflict or are apart
unfoldable pub meet : Node → Node → Bool
meet x y = needs_meet x.needs x.place y.needs y.place

-- y names the number n in its list `after`
unfoldable pub names : Node → ℕ → Bool
names y n = list_any (λ m. m == n) y.after

-- the earlier node x, whose number is n, comes before y
unfoldable pub before : Node → ℕ → Node → Bool
before x n y = is_before (meet x y) (names y n) x.in_order y.in_order

-- what is left of a node that is done is None; a pending one holds back what it comes before
abbrev pub holds : Node → ℕ → Option Node → Bool
holds y n (Some x) = before x n y
holds y n None = false

-- one of the nodes, which are numbered from 0, is pending and comes before y
unfoldable pub is_held : List (Option Node) → Node → Bool
is_held nodes y = list_any (λ e. holds y e.0 e.1) (enumerate_from 0 nodes)

abbrev pub is_free : List (Option Node) → Option (Option Node) → Bool
is_free earlier (Some (Some y)) = not (is_held earlier y)
is_free earlier (Some None) = false
is_free earlier None = false

-- the node n is pending, and no pending earlier node comes before it
unfoldable pub is_ready : List (Option Node) → ℕ → Bool
is_ready nodes n = is_free (take n nodes) (slice_get nodes n)

-- the node n is pending, and each pending node of a lower number doesn't come before it
abbrev pub IsReady : List (Option Node) → ℕ → Type 0
IsReady nodes n = (y : Node) × (slice_get nodes n ≡ Some (Some y)) × ((m : ℕ) (x : Node) → m < n → slice_get nodes m ≡ Some (Some x) → before x m y ≡ false)
