use Rattle.std.proofs.Common.{length}
use Rattle.sy_copies.proofs.cells.+clear_run.Given as goal

abbrev pub decreases-clear_run : goal.decreases-clear_run
decreases-clear_run l = length l.needs.now
