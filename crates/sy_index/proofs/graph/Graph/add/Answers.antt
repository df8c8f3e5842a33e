-- Adding a node: what is kept stays right where it is added, and is as before where memory is short.
use Rattle.std.proofs.Common.{◌≡◌, ℕ, ◌<◌, ap, sym, ◌∙◌, subst, List, [], ◌∷◌, ◌++◌, Option, Some, length, arith}
use Rattle.sy_graph.specs.declared.node.Node.{Node}
use Rattle.sy_index.specs.declared.slot.Slot.{Slot}
use Rattle.sy_index.specs.Listed.{listed, by_root}
use Rattle.sy_index.specs.Slots.{IsIndex, nodes_of}
use Rattle.sy_index.proofs.IndexLemmas.{lists_kept, Added, added, index_shed_at, length-nodes_of, nodes_of-linked, nodes_of-pushed}
use Rattle.sy_index.proofs.graph.Graph.add.Goals as goal
use Rattle.sy_index.proofs.graph.Graph.add.Goals.{in-Some, in_default-node}

pub overflow_cast-number : goal.overflow_cast-number
overflow_cast-number c =
    let seen : length (nodes_of c.self.inside.slots) ≡ length c.args.self.now = ap length c.self.view_is in
    let all = length-nodes_of c.self.inside.slots in
    omega arith

pub append-requires : goal.append-requires
append-requires c =
    let seen : length (nodes_of c.self.inside.slots) ≡ length c.args.self.now = ap length c.self.view_is in
    let all = length-nodes_of c.self.inside.slots in
    let room = c.requires.room in
    omega arith

pub invariant_of-self : goal.invariant_of-self
invariant_of-self c =
    let other = λ (m : ℕ) (lt : m < length c.self.inside.slots) (e : m ≡ c.len-number.result). let l = c.len-number.ensures in absurd (omega arith) in
    lists_kept c.self.inside.slots (by_root c.self.inside.roots) (by_root c.delist.new.roots) (listed c.self.inside.queues) (listed c.delist.new.queues) c.self.invariant
    (λ w k m lt h. c.delist.ensures.roots_kept w k m (other m lt) (c.enlist.ensures.roots_kept w k m h))
    (λ k m lt h. c.delist.ensures.queues_kept k m (other m lt) (c.enlist.ensures.queues_kept k m h))

pub invariant_of-self-in-Some : goal.invariant_of-self-in-Some
invariant_of-self-in-Some c =
    let new : Slot = record { node = c.args.node; waits = c.len.result; next = c.new.result } in
    let count : c.len.result ≡ length c.in-Ok.found.items = c.len.ensures ∙ sym c.as_slice.ensures.len ∙ ap length c.as_slice.ensures.value in
    let made : Added c.self.inside.slots c.append.new.self (by_root c.enlist.new.roots) (listed c.enlist.new.queues) c.len-number.result new =
    added c.self.inside.slots c.append.new.self (by_root c.self.inside.roots) (by_root c.enlist.new.roots) (listed c.self.inside.queues) (listed c.enlist.new.queues) new c.in-Ok.found.items c.as_slice.result.now c.len-number.result c.self.invariant c.in-Ok-append.ensures.ok c.as_slice.ensures.value c.len-number.ensures c.in-Ok.ensures c.enlist.ensures.roots_kept c.enlist.ensures.queues_kept c.in-Ok-enlist.ensures.rooted c.in-Ok-enlist.ensures.queued count c.new.ensures in
    index_shed_at c.append.new.self (by_root c.enlist.new.roots) (by_root c.shed.new.roots) (listed c.enlist.new.queues) (listed c.shed.new.queues) c.len-number.result new c.in-Some.node.now made.index made.at made.end c.in-Some.ensures c.shed.ensures.roots_kept c.shed.ensures.queues_kept c.in-Ok-enlist.ensures.rooted c.in-Ok-enlist.ensures.queued

pub invariant_of-self-in_default-node : goal.invariant_of-self-in_default-node
invariant_of-self-in_default-node c =
    let new : Slot = record { node = c.args.node; waits = c.len.result; next = c.new.result } in
    let count : c.len.result ≡ length c.in-Ok.found.items = c.len.ensures ∙ sym c.as_slice.ensures.len ∙ ap length c.as_slice.ensures.value in
    let made : Added c.self.inside.slots c.append.new.self (by_root c.enlist.new.roots) (listed c.enlist.new.queues) c.len-number.result new =
    added c.self.inside.slots c.append.new.self (by_root c.self.inside.roots) (by_root c.enlist.new.roots) (listed c.self.inside.queues) (listed c.enlist.new.queues) new c.in-Ok.found.items c.as_slice.result.now c.len-number.result c.self.invariant c.in-Ok-append.ensures.ok c.as_slice.ensures.value c.len-number.ensures c.in-Ok.ensures c.enlist.ensures.roots_kept c.enlist.ensures.queues_kept c.in-Ok-enlist.ensures.rooted c.in-Ok-enlist.ensures.queued count c.new.ensures in
    made.index

pub returns-in-Ok-append-clause-number : goal.returns-in-Ok-append-clause-number
returns-in-Ok-append-clause-number c = c.len-number.ensures ∙ sym (length-nodes_of c.self.inside.slots) ∙ ap length c.self.view_is

pub returns-in-Ok-append-clause-added : goal.returns-in-Ok-append-clause-added
returns-in-Ok-append-clause-added c =
    let new : Slot = record { node = c.args.node; waits = c.len.result; next = c.new.result } in
    let all : nodes_of c.append.new.self ≡ c.args.self.now ++ Some c.args.node ∷ [] =
    ap nodes_of c.in-Ok-append.ensures.ok
    ∙ nodes_of-pushed _ new
    ∙ ap (λ (v : List (Option Node)). v ++ Some c.args.node ∷ []) (nodes_of-linked c.self.inside.slots _ _ ∙ c.self.view_is) in
    elim c.match-node.branch [ in-Some w ↦ w.self-is ∙ all | in_default-node w ↦ w.self-is ∙ all ]

pub invariant_of-self-in-Err : goal.invariant_of-self-in-Err
invariant_of-self-in-Err c =
    let other = λ (m : ℕ) (lt : m < length c.self.inside.slots) (e : m ≡ c.len-number.result). let l = c.len-number.ensures in absurd (omega arith) in
    subst (λ (v : List (Option Slot)). IsIndex v (by_root c.delist-in-Err.new.roots) (listed c.delist-in-Err.new.queues)) (sym c.in-Err.ensures.err)
    (lists_kept c.self.inside.slots (by_root c.self.inside.roots) (by_root c.delist-in-Err.new.roots) (listed c.self.inside.queues) (listed c.delist-in-Err.new.queues) c.self.invariant
    (λ w k m lt h. c.delist-in-Err.ensures.roots_kept w k m (other m lt) (c.enlist.ensures.roots_kept w k m h))
    (λ k m lt h. c.delist-in-Err.ensures.queues_kept k m (other m lt) (c.enlist.ensures.queues_kept k m h)))
