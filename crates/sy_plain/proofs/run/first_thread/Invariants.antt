use Rattle.std.proofs.Common.{◌≡◌, drop}
use Rattle.sy_plain.specs.Runs.{least}
use Rattle.sy_plain.proofs.run.first_thread.Given as goal

abbrev pub invariant-loop-t : goal.invariant-loop-t
invariant-loop-t l = least l.board l.t (drop l.t l.asks) ≡ least l.board 0 l.asks
