use Rattle.std.proofs.Common.{◌≡◌, ◌∙◌, ap, arith, length}
use Rattle.sy_board.specs.Turns.{give_upto}
use Rattle.sy_board.proofs.AnswerLemmas.{give_upto-all}
use Rattle.sy_board.proofs.board.OneCopy.give_all.Goals as goal

pub returns : goal.returns
returns c =
    let e : c.loop-k.k ≡ length c.args.self.now.waits = omega arith in
    c.loop-k.invariant ∙ ap (give_upto c.args.self.now) e ∙ give_upto-all c.args.self.now
