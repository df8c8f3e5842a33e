use Rattle.std.proofs.Common.{sym, subst}
use Rattle.sy_copies.specs.Current.{Agree}
use Rattle.sy_copies.proofs.AgreementLemmas.{agree_none}
use Rattle.sy_copies.proofs.copies.Copies.new.Goals as goal

pub returns-clause-agree : goal.returns-clause-agree
returns-clause-agree c = subst Agree (sym c.new.ensures.items) agree_none
