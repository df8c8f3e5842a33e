-- Which entries come before which.
use Rattle.std.specs.Prelude.{ℕ, Bool, true, false, not, ◌&&◌, ◌==◌, List, take}
use Rattle.std.specs.List.{list_any}
use Rattle.sy_onecopy.specs.declared.Entry.{Entry}
use Rattle.sy_onecopy.specs.declared.Work.{Work}
use Rattle.sy_onecopy.specs.declared.Work.TheVariants.{Node, Access, End}
use Rattle.sy_onecopy.specs.declared.Stage.{Stage}
use Rattle.sy_onecopy.specs.declared.Stage.TheVariants.{Pending, Granted, Done, Failed}
use Rattle.sy_needs.specs.Order.{needs_meet, is_before}

-- a need of x and a need of y conflict or are apart
unfoldable pub meet : Entry → Entry → Bool
meet x y = needs_meet x.needs x.place y.needs y.place

abbrev pub is_node : Work → ℕ → Bool
is_node (Node m q c) n = m == n
is_node (Access t k) n = false
is_node (End t b) n = false

-- one of these numbers is the node's
unfoldable pub is_named : Work → List ℕ → Bool
is_named w numbers = list_any (is_node w) numbers

-- the earlier entry x is before y
unfoldable pub before : Entry → Entry → Bool
before x y = is_before (meet x y) (is_named x.work y.after) x.in_order y.in_order

abbrev pub is_done : Stage → Bool
is_done Pending = false
is_done Granted = false
is_done Done = true
is_done (Failed f) = true

abbrev pub is_pending : Stage → Bool
is_pending Pending = true
is_pending Granted = false
is_pending Done = false
is_pending (Failed f) = false

-- x is pending or granted, and before y
unfoldable pub blocks : Entry → Entry → Bool
blocks y x = not (is_done x.stage) && before x y

unfoldable pub is_held : List Entry → Entry → Bool
is_held earlier y = list_any (blocks y) earlier

-- the entry at k is pending, and nothing before it is pending or granted
unfoldable pub is_free : List Entry → ℕ → Entry → Bool
is_free entries k e = is_pending e.stage && not (is_held (take k entries) e)
