-- What always holds of the board of a run.
use Rattle.std.specs.Prelude.{◌≡◌, ℕ, ◌^◌, ◌<◌, ◌≤◌, false, true, List, [], ◌∷◌, length, All, Option, Some, None, slice_get, filter_map}
use Rattle.std.specs.List.{range_with_len}
use Rattle.sy_access.specs.declared.access.Need.{Need}
use Rattle.sy_onecopy.specs.declared.Buffer.{Buffer}
use Rattle.sy_onecopy.specs.declared.Queue.{Queue}
use Rattle.sy_onecopy.specs.declared.Entry.{Entry}
use Rattle.sy_onecopy.specs.declared.Work.{Work}
use Rattle.sy_onecopy.specs.declared.Work.TheVariants.{Node, Access, End}
use Rattle.sy_onecopy.specs.State.{Board}
use Rattle.sy_onecopy.specs.Step.{is_part, writes_if_fresh, whole, has_needs, are_different, live_elements}

-- the need names a buffer that has elements of its own, and a run of its elements, and writes if it has no_init
pub record IsHeld (buffers : List Buffer) (n : Need) : Type 0 where
  pub root : Buffer
  pub there : slice_get buffers n.buffer ≡ Some root
  pub own : is_part root.origin ≡ false
  pub up : n.from ≤ n.to
  pub within : n.to ≤ length root.values
  pub honest : writes_if_fresh n ≡ true

-- the needs hold the node's command, a host access has one need, and the end of a buffer needs all of the buffer
abbrev pub Suit : List Buffer → List Need → Work → Type 0
Suit buffers needs (Node n q c) = has_needs needs c ≡ true
Suit buffers needs (Access t k) = length needs ≡ 1
Suit buffers needs (End t r) = (x : Buffer) × (slice_get buffers r ≡ Some x) × (needs ≡ whole r x ∷ [])

-- an entry stands over these buffers, so many nodes and so many places: no two needs of it name one run of one buffer
pub record Stands (buffers : List Buffer) (nodes places : ℕ) (e : Entry) : Type 0 where
  pub held : All (IsHeld buffers) e.needs
  pub different : are_different e.needs ≡ true
  pub suits : Suit buffers e.needs e.work
  pub named : All (λ n. n < nodes) e.after
  pub placed : e.place < places

abbrev pub node_number : Work → Option ℕ
node_number (Node n q c) = Some n
node_number (Access t k) = None
node_number (End t r) = None

-- the numbers of the nodes, in the order of the entries
unfoldable pub node_numbers : List Entry → List ℕ
node_numbers entries = filter_map (λ e. node_number e.work) entries

-- each step adds one at most, and the bounds of a run are kept
pub record IsCounted (b : Board) : Type 0 where
  pub buffers : length b.buffers ≤ b.steps
  pub queues : length b.queues ≤ b.steps
  pub entries : length b.entries ≤ b.steps
  pub steps : b.steps ≤ 2 ^ 24
  pub host : 1 ≤ b.places
  pub places : b.places ≤ 17
  pub main : 1 ≤ length b.waits
  pub threads : length b.waits ≤ 64
  pub output : length b.output ≤ 2 ^ 24
  pub live : live_elements b.buffers ≤ 2 ^ 22

-- the counts fit, the buffers are small, every queue and entry stands on what is there, and the nodes are numbered in their order
pub record IsSound (b : Board) : Type 0 where
  pub counts : IsCounted b
  pub small : All (λ (x : Buffer). length x.values ≤ 2 ^ 22) b.buffers
  pub queues : All (λ (x : Queue). x.place < b.places) b.queues
  pub entries : All (Stands b.buffers b.nodes b.places) b.entries
  pub numbers : node_numbers b.entries ≡ range_with_len 0 b.nodes
