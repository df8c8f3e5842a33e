use Rattle.sy_coreboard.proofs.TaskLemmas.{missed-source, drops-stands}
use Rattle.sy_coreboard.proofs.laws.sources_are_kept.Goals as goal

pub returns-clause-source : goal.returns-clause-source
returns-clause-source c p order xs core k e r s f u = missed-source core k e r s.kept f u

pub returns-clause-dropped : goal.returns-clause-dropped
returns-clause-dropped c = drops-stands
