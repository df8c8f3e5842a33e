use Rattle.std.proofs.Common.{◌∙◌, ◌<◌, length, rules}
use Rattle.sy_board.proofs.AnswerLemmas.{give_due, give_not, give_past}
use Rattle.sy_board.proofs.board.OneCopy.give.Goals as goal

pub returns-then-k-len : goal.returns-then-k-len
returns-then-k-len c = give_past c.args.self.now c.args.k (search rules)

pub returns-then-is_due : goal.returns-then-is_due
returns-then-is_due c =
    let lt : c.args.k < length c.args.self.now.waits = search rules in
    c.await_at.ensures ∙ give_due c.args.self.now c.args.k lt c.if-is_due.ensures

pub returns-else-is_due : goal.returns-else-is_due
returns-else-is_due c =
    let lt : c.args.k < length c.args.self.now.waits = search rules in
    give_not c.args.self.now c.args.k lt c.if-is_due.ensures
