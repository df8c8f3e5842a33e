-- What is kept of each node, and what the kept counts and lists mean.
use Rattle.std.specs.Prelude.{◌≡◌, ℕ, zero, suc, ◌+◌, ◌-◌, ◌<◌, Bool, true, false, ◌==◌, ◌⊎◌, List, [], ◌∷◌, ◌++◌, map, length, take, Option, Some, None, slice_get, option_map, unwrap_or, if◌then◌else◌}
use Rattle.std.specs.List.{flat_map}
use Rattle.sy_access.specs.declared.access.Need.{Need}
use Rattle.sy_access.specs.Needs.{writes}
use Rattle.sy_graph.specs.declared.node.Node.{Node}
use Rattle.sy_graph.specs.Before.{before}
use Rattle.sy_index.specs.declared.slot.Slot.{Slot}
use Rattle.sy_index.specs.Cover.{covered, superseded}
use Rattle.sy_index.specs.Lists.{count, Has}

-- the slot at m is what f makes of it
unfoldable pub changed : (Slot → Slot) → List (Option Slot) → ℕ → List (Option Slot)
changed f [] m = []
changed f (o ∷ os) zero = option_map f o ∷ os
changed f (o ∷ os) (suc m) = o ∷ changed f os m

abbrev pub with_successor : ℕ → Slot → Slot
with_successor n s = record s { next = s.next ++ n ∷ [] }

abbrev pub without_last : Slot → Slot
without_last s = record s { next = take (length s.next - 1) s.next }

abbrev pub with_fewer : Slot → Slot
with_fewer s = record s { waits = s.waits - 1 }

-- n is a successor of each of the nodes ms
unfoldable pub linked : List (Option Slot) → ℕ → List ℕ → List (Option Slot)
linked slots n [] = slots
linked slots n (m ∷ ms) = linked (changed (with_successor n) slots m) n ms

-- the last successor of each of the nodes ms is taken back
unfoldable pub unlinked : List (Option Slot) → List ℕ → List (Option Slot)
unlinked slots [] = slots
unlinked slots (m ∷ ms) = unlinked (changed without_last slots m) ms

-- each of the nodes ms waits for one less
unfoldable pub told : List (Option Slot) → List ℕ → List (Option Slot)
told slots [] = slots
told slots (m ∷ ms) = told (changed with_fewer slots m) ms

-- the slot of the node n, where that is pending
abbrev pub pending : List (Option Slot) → ℕ → Option Slot
pending slots n = unwrap_or (slice_get slots n) None

-- the node is pending and waits for none
abbrev pub idle : Option Slot → Bool
idle (Some s) = s.waits == 0
idle None = false

-- the slots behind k nodes that are done
unfoldable pub behind : ℕ → List (Option Slot) → List (Option Slot)
behind zero slots = slots
behind (suc k) slots = None ∷ behind k slots

-- the list of nodes, in which a node that is done is None
abbrev pub node_of : Option Slot → Option Node
node_of o = option_map (λ s. s.node) o

unfoldable pub nodes_of : List (Option Slot) → List (Option Node)
nodes_of slots = map node_of slots

-- how often the nodes have n as a successor
unfoldable pub edges : List (Option Slot) → ℕ → ℕ
edges [] n = 0
edges (None ∷ os) n = edges os n
edges (Some s ∷ os) n = count s.next n + edges os n

-- the node at m is pending, and this is its slot
abbrev pub At : List (Option Slot) → ℕ → Slot → Type 0
At slots m x = slice_get slots m ≡ Some (Some x)

-- m is pending and comes before y
abbrev pub holds_slot : Option Slot → ℕ → Node → Bool
holds_slot (Some x) m y = before x.node m y
holds_slot None m y = false

unfoldable pub holds_at : List (Option Slot) → Node → ℕ → Bool
holds_at slots y m = holds_slot (pending slots m) m y

-- the node at m is done, or y covers each of its needs on the root
abbrev pub superseded_slot : Option Slot → ℕ → Node → Bool
superseded_slot (Some x) root y = superseded x.node root y
superseded_slot None root y = true

unfoldable pub superseded_at : List (Option Slot) → ℕ → ℕ → Node → Bool
superseded_at slots m root y = superseded_slot (pending slots m) root y

-- n is pending and comes after m
pub record Follows (slots : List (Option Slot)) (m : ℕ) (x : Slot) (n : ℕ) : Type 0 where
  pub later : m < n
  pub slot : Slot
  pub at : At slots n slot
  pub after : before x.node m slot.node ≡ true

-- an edge leads to n from m, or from a pending node that m comes before
pub record Reached (slots : List (Option Slot)) (m : ℕ) (x : Slot) (n : ℕ) : Type 0 where
  pub by : ℕ
  pub slot : Slot
  pub at : At slots by slot
  pub edge : Has slot.next n
  pub start : (by ≡ m) ⊎ ((m < by) × (before x.node m slot.node ≡ true))

-- a later pending node, listed as one that writes, covers the need a of the node m at place p
pub record Covered (slots : List (Option Slot)) (roots : Bool → ℕ → List ℕ) (m p : ℕ) (a : Need) : Type 0 where
  pub by : ℕ
  pub slot : Slot
  pub at : At slots by slot
  pub later : m < by
  pub listed : Has (roots true a.buffer) by
  pub covers : covered a p slot.node ≡ true

-- a later pending node of the queue is listed
pub record Queued (slots : List (Option Slot)) (queues : ℕ → List ℕ) (m q : ℕ) : Type 0 where
  pub by : ℕ
  pub slot : Slot
  pub at : At slots by slot
  pub later : m < by
  pub listed : Has (queues q) by
  pub same : slot.node.in_order ≡ Some q

-- what is kept of the pending nodes: the nodes that each waits for, and the lists by root and by queue,
-- where each pending node is listed or one that takes its place
pub record IsIndex (slots : List (Option Slot)) (roots : Bool → ℕ → List ℕ) (queues : ℕ → List ℕ) : Type 0 where
  pub counted : (n : ℕ) (y : Slot) → At slots n y → y.waits ≡ edges slots n
  pub sound : (m : ℕ) (x : Slot) (n : ℕ) → At slots m x → Has x.next n → Follows slots m x n
  pub complete : (m : ℕ) (x : Slot) (n : ℕ) (y : Slot) → m < n → At slots m x → At slots n y → before x.node m y.node ≡ true → Reached slots m x n
  pub rooted : (m : ℕ) (x : Slot) (i : ℕ) (a : Need) → At slots m x → slice_get x.node.needs i ≡ Some a → Has (roots (writes a.mode) a.buffer) m ⊎ Covered slots roots m x.node.place a
  pub queued : (m : ℕ) (x : Slot) (q : ℕ) → At slots m x → x.node.in_order ≡ Some q → Has (queues q) m ⊎ Queued slots queues m q

abbrev pub queue_numbers : (ℕ → List ℕ) → Option ℕ → List ℕ
queue_numbers queues (Some q) = queues q
queue_numbers queues None = []

-- the nodes that a need may have to wait for: those that write its root, and where it writes those that read it
abbrev pub root_numbers : (Bool → ℕ → List ℕ) → Need → List ℕ
root_numbers roots c = roots true c.buffer ++ (if writes c.mode then roots false c.buffer else [])

-- the numbers of the nodes that may come before y
unfoldable pub candidates : (Bool → ℕ → List ℕ) → (ℕ → List ℕ) → Node → List ℕ
candidates roots queues y = y.after ++ queue_numbers queues y.in_order ++ flat_map (root_numbers roots) y.needs
