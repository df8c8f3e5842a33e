use Rattle.sy_corelinks.proofs.ShownLemmas.{installs_core, finishes_core, closes_core, drops_core}
use Rattle.sy_corelinks.proofs.AskShownLemmas.{asks_core, makes_core}
use Rattle.sy_corelinks.proofs.laws.copies_show_the_core.Goals as goal

pub returns-clause-installed : goal.returns-clause-installed
returns-clause-installed c = installs_core

pub returns-clause-finished : goal.returns-clause-finished
returns-clause-finished c = finishes_core

pub returns-clause-dropped : goal.returns-clause-dropped
returns-clause-dropped c = drops_core

pub returns-clause-closed : goal.returns-clause-closed
returns-clause-closed c = closes_core

pub returns-clause-asked : goal.returns-clause-asked
returns-clause-asked c = asks_core

pub returns-clause-made : goal.returns-clause-made
returns-clause-made c = makes_core
