use Rattle.sy_foot.proofs.CellLemmas.{number-below}
use Rattle.sy_foot.proofs.numbering.CellNumbers.count.Goals as goal

pub returns-clause-below : goal.returns-clause-below
returns-clause-below c = number-below c.args.self.now
