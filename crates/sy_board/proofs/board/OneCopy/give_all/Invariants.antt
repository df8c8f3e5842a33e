use Rattle.std.proofs.Common.{◌≡◌}
use Rattle.sy_board.specs.Turns.{give_upto}
use Rattle.sy_board.proofs.board.OneCopy.give_all.Given as goal

abbrev pub invariant-loop-k : goal.invariant-loop-k
invariant-loop-k l = l.self ≡ give_upto l.fn.self l.k
