use Rattle.std.proofs.Common.{◌≡◌, ◌∙◌, ap, take, List, ◌++◌, arith, ◌≤◌, ◌<◌, length}
use Rattle.std.specs.List.{filter, flat_map}
use Rattle.std.proofs.lemmas.List.{take_all}
use Rattle.sy_access.specs.declared.access.Need.{Need}
use Rattle.sy_index.specs.Listed.{listed, by_root}
use Rattle.sy_index.specs.Slots.{holds_at, queue_numbers, root_numbers}
use Rattle.sy_index.proofs.IndexLemmas.{gathered_at, candidates_is}
use Rattle.sy_index.proofs.graph.predecessors.Goals as goal

pub loop-need-preserved : goal.loop-need-preserved
loop-need-preserved c =
    let more : c.loop-need.need-index < length c.items-need-items.result.now = c.loop-need-test.true in
    gathered_at (holds_at c.args.slots.now c.args.node.now) (c.args.node.now.after ++ queue_numbers (listed c.args.queues.now) c.args.node.now.in_order) (root_numbers (by_root c.args.roots.now)) c.args.node.now.needs c.items-need-items.result.now c.loop-need.need-index _ c.loop-need.found.items c.gather_root.new.into.items
    c.items-need-items.ensures more c.loop-need.invariant c.in_ok-gather_root.ensures

pub returns : goal.returns
returns c =
    let far : length c.args.node.now.needs ≤ c.loop-need.need-index = omega (arith, ap length c.items-need-items.ensures) in
    let whole : take c.loop-need.need-index c.args.node.now.needs ≡ c.args.node.now.needs = take_all c.loop-need.need-index c.args.node.now.needs far in
    c.loop-need.invariant
    ∙ ap (λ (v : List Need). filter (holds_at c.args.slots.now c.args.node.now) (c.args.node.now.after ++ queue_numbers (listed c.args.queues.now) c.args.node.now.in_order ++ flat_map (root_numbers (by_root c.args.roots.now)) v)) whole
    ∙ ap (filter (holds_at c.args.slots.now c.args.node.now)) (candidates_is (by_root c.args.roots.now) (listed c.args.queues.now) c.args.node.now)
