use Rattle.std.specs.Prelude.{◌++◌, codes, decimal}
use Rattle.sy_top.specs.Notes.{stats_line}
use Rattle.sy_top.proofs.Texts.{two, put_two}
use Rattle.sy_top.proofs.notes.Line.stats.Goals as goal

pub returns : goal.returns
unfolding stats_line
returns c =
    let first = codes "syclrun: commands " ++ decimal c.args.commands in
    let second = codes ", steps " ++ decimal c.args.steps in
    let third = codes ", copies " ++ decimal c.args.copies in
    put_two c.put.result _ c.args.self.now.text.items _ (first ++ second) (third ++ codes "\n") (two _ _ _ first second c.in_ok-number.ensures c.in_ok-number-2.ensures)
    (put_two c.put.result _ _ _ third (codes "\n") c.in_ok-number-3.ensures c.put.ensures)
