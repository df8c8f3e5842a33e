use Rattle.std.proofs.Common.{◌≡◌, ◌++◌, take}
use Rattle.std.specs.List.{filter, flat_map}
use Rattle.sy_index.specs.Listed.{listed, by_root}
use Rattle.sy_index.specs.Slots.{holds_at, queue_numbers, root_numbers}
use Rattle.sy_index.proofs.graph.predecessors.Given as goal

abbrev pub invariant-loop-need : goal.invariant-loop-need
invariant-loop-need l = l.found.items ≡ filter (holds_at l.slots l.node) (l.node.after ++ queue_numbers (listed l.queues) l.node.in_order ++ flat_map (root_numbers (by_root l.roots)) (take l.need-index l.node.needs))
