use Rattle.sy_foot.proofs.CellLemmas.{buffer-below, local-above, shared-within}
use Rattle.sy_foot.proofs.numbering.CellNumbers.shared.Goals as goal

pub returns-clause-buffers : goal.returns-clause-buffers
returns-clause-buffers c = buffer-below c.args.self.now

pub returns-clause-locals : goal.returns-clause-locals
returns-clause-locals c = λ slot i n e. (local-above c.args.self.now slot i n e).0

pub returns-clause-within : goal.returns-clause-within
returns-clause-within c = shared-within c.args.self.now
