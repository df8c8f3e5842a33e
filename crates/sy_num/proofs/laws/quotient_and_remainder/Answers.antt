use Rattle.sy_num.proofs.Theorems.{whole, together}
use Rattle.sy_num.proofs.laws.quotient_and_remainder.Goals as goal

pub returns-clause-whole : goal.returns-clause-whole
returns-clause-whole c = whole

pub returns-clause-together : goal.returns-clause-together
returns-clause-together c = together
