use Rattle.std.proofs.Common.{◌≡◌, ℕ, ℤ, List, None}
use Rattle.sy_work.specs.Programs.{NextAsk}
use Rattle.sy_work.specs.declared.asks.Answer.{Answer}
use Rattle.sy_plain.proofs.hosts.ask_host.Given as goal

abbrev pub invariant-loop-ask : goal.invariant-loop-ask
invariant-loop-ask g l = record {
  closed : g.H.Host.pending l.host ≡ None;
  kept : (n : NextAsk) (b : ℕ) (cs : List ℤ) (answers : List Answer) → g.H.Host.stands l.fn.host n b cs answers → g.H.Host.stands l.host n b cs answers;
}

abbrev pub decreases-loop-ask : goal.decreases-loop-ask
decreases-loop-ask g l = g.H.Host.left l.host
