-- The graph's numbers beside the machine's: the graph counts all entries, the machine's nodes are counted alone.
use Rattle.std.specs.Prelude.{◌≡◌, ◌==◌, ◌<◌, ℕ, true, false, List, length, map, Option, Some, None, slice_get, slice_index_or}
use Rattle.std.specs.List.{list_any}
use Rattle.sy_work.specs.declared.commands.Command.{Command}
use Rattle.sy_onecopy.specs.declared.Work.TheVariants as work
use Rattle.sy_graph.specs.declared.node.Node.{Node}
use Rattle.sy_onecopy.specs.declared.Entry.{Entry}
use Rattle.sy_onecopy.specs.Before.{is_done, is_node, is_named}

-- the node of the graph that stands for the entry at index k, which names entries by their indexes
pub record IsNode (entries : List Entry) (k : ℕ) (e : Entry) (n : Node) : Type 0 where
  pub needs : n.needs ≡ e.needs
  pub place : n.place ≡ e.place
  pub in_order : n.in_order ≡ e.in_order
  -- an earlier entry that is not done is named by the one where it is by the other
  pub after : (j : ℕ) (x : Entry) → j < k → slice_get entries j ≡ Some x → is_done x.stage ≡ false → list_any (λ m. m == j) n.after ≡ is_named x.work e.after

-- node k of the graph stands for entry k, and is done where the entry is
pub record IsGraph (entries : List Entry) (nodes : List (Option Node)) : Type 0 where
  pub count : length nodes ≡ length entries
  pub done : (k : ℕ) (e : Entry) → slice_get entries k ≡ Some e → is_done e.stage ≡ true → slice_get nodes k ≡ Some None
  pub node : (k : ℕ) (e : Entry) → slice_get entries k ≡ Some e → is_done e.stage ≡ false → (n : Node) × (slice_get nodes k ≡ Some (Some n)) × IsNode entries k e n

-- for the number of each of the machine's nodes the index of its entry, and for nothing else
pub record AreIndexes (entries : List Entry) (indexes : List ℕ) : Type 0 where
  pub here : (j : ℕ) (x : Entry) (n q : ℕ) (c : Command) → slice_get entries j ≡ Some x → x.work ≡ work.Node n q c → slice_get indexes n ≡ Some j
  pub back : (n j : ℕ) → slice_get indexes n ≡ Some j → (x : Entry) × (slice_get entries j ≡ Some x) × (is_node x.work n ≡ true)

-- the indexes of the entries of these nodes
abbrev pub indexes_of : List ℕ → List ℕ → List ℕ
indexes_of indexes after = map (λ n. slice_index_or indexes n 0) after
