use Rattle.std.proofs.Common.{option_map, ap, sym, ◌∙◌, arith}
use Rattle.sy_copies.specs.Places.{published}
use Rattle.sy_copies.proofs.RootLemmas.{root_there, root_past}
use Rattle.sy_copies.proofs.copies.publish_root.Goals as goal

pub returns-then-number-buffers : goal.returns-then-number-buffers
returns-then-number-buffers c =
    root_there c.args.place c.args.needs.now c.args.log.now c.args.root c.args.buffers.now c.index-buffers-number.result c.publish_in.new.entry c.if-number-buffers.true c.index-buffers-number.is
    (c.publish_in.ensures ∙ ap (option_map (published c.args.place c.args.needs.now c.args.log.now c.args.root)) (sym c.index-buffers-number.is))

pub returns-else-number-buffers : goal.returns-else-number-buffers
returns-else-number-buffers c = root_past c.args.place c.args.needs.now c.args.log.now c.args.root c.args.buffers.now (omega arith)
