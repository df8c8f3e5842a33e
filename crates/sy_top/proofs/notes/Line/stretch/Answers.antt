use Rattle.std.specs.Prelude.{◌++◌, codes, decimal}
use Rattle.sy_top.specs.Trace.{stretch_line}
use Rattle.sy_top.proofs.Texts.{two, put_two}
use Rattle.sy_top.proofs.notes.Line.stretch.Goals as goal

pub returns : goal.returns
unfolding stretch_line
returns c =
    let first = decimal c.args.thread in
    let second = codes " " ++ decimal c.args.steps in
    put_two c.put.result _ c.args.self.now.text.items _ (first ++ second) (codes "\n") (two _ _ _ first second c.in_ok-number.ensures c.in_ok-number-2.ensures) c.put.ensures
