use Rattle.std.proofs.Common.{◌-◌, ◌^◌}
use Rattle.sy_work.specs.Programs.{Program}
use Rattle.sy_sound.specs.Known.{AllKnown}
use Rattle.sy_plain.specs.Runs.{Begins, Reached}
use Rattle.sy_plain.proofs.run.run_plain.Given as goal

-- for each program that main begins, the board and the hosts stand for the state after the order so far
abbrev pub invariant-loop-ending : goal.invariant-loop-ending
invariant-loop-ending g l = record {
  known : AllKnown (g.R.Runner.knows l.runner) l.board.entries;
  reached : (p : Program) → Begins g.H.Host.stands (g.R.Runner.knows l.runner) (g.R.Runner.outcome l.runner) p l.fn.main → Reached g.H.Host.pending g.H.Host.stands p l.board l.hosts.items l.asks.items l.order.items;
}

abbrev pub decreases-loop-ending : goal.decreases-loop-ending
decreases-loop-ending g l = 2 ^ 24 - l.board.steps
