use Rattle.std.proofs.Common.{IsTrue}
use Rattle.sy_coreboard.proofs.TicketLemmas.{stands-known, out-fits}
use Rattle.sy_coreboard.proofs.laws.tickets_suit_their_runner.Goals as goal

pub returns-clause-known : goal.returns-clause-known
returns-clause-known c knows p order xs core all s = stands-known (λ w. IsTrue (knows w)) p order xs core all s

pub returns-clause-fits : goal.returns-clause-fits
returns-clause-fits c = out-fits
