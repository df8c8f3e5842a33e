use Rattle.std.proofs.Common.{◌≡◌}
use Rattle.sy_onecopy.specs.Settle.{settle_upto}
use Rattle.sy_board.proofs.board.OneCopy.settle.Given as goal

abbrev pub invariant-loop-k : goal.invariant-loop-k
invariant-loop-k g l = l.self ≡ settle_upto (g.R.Runner.outcome l.runner) l.fn.self l.k
