use Rattle.std.proofs.Common.{◌≡◌}
use Rattle.std.specs.Prelude.{slice_get}
use Rattle.sy_onecopy.specs.Step.{once_heard}
use Rattle.sy_board.specs.Turns.{due_of}
use Rattle.sy_board.proofs.AnswerLemmas.{first_changed}
use Rattle.sy_plain.proofs.AnswerLemmas.{Hearing}
use Rattle.sy_plain.proofs.hosts.hear_all.Given as goal

-- the first k threads have heard what is due to them
abbrev pub invariant-loop-k : goal.invariant-loop-k
invariant-loop-k g l = record {
  board : l.board ≡ record l.fn.board { waits = first_changed once_heard l.k l.fn.board.waits };
  hearing : Hearing g.H.Host.pending g.H.Host.stands (λ u. due_of (slice_get l.fn.board.waits u)) l.fn.hosts.items l.fn.asks.items l.k l.hosts.items l.asks.items;
}
