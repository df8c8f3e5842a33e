use Rattle.std.proofs.Common.{sym}
use Rattle.sy_copies.proofs.ConditionLemmas.{not_there}
use Rattle.sy_copies.proofs.copies.Copies.may_renew.Goals as goal

pub returns-in-None-clause-may_not : goal.returns-in-None-clause-may_not
returns-in-None-clause-may_not c = λ h may. not_there _ _ _ _ (sym c.in-None.ensures) may
