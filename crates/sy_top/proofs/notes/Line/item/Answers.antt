use Rattle.std.specs.Prelude.{◌++◌, codes, decimal}
use Rattle.sy_top.specs.Notes.{item_text}
use Rattle.sy_top.proofs.Texts.{put_two}
use Rattle.sy_top.proofs.notes.Line.item.Goals as goal

pub returns : goal.returns
unfolding item_text
returns c = put_two c.number-2.result _ c.args.self.now.text.items _ (codes "kernel error: node " ++ decimal c.args.node) (codes ", item " ++ decimal c.args.item) c.in_ok-number.ensures c.number-2.ensures
