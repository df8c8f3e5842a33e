use Rattle.sy_corelinks.proofs.ShownLemmas.{takes_shown, hears_shown, stays_shown}
use Rattle.sy_corelinks.proofs.laws.copies_stay_shown.Goals as goal

pub returns-clause-takes : goal.returns-clause-takes
returns-clause-takes c = takes_shown

pub returns-clause-hears : goal.returns-clause-hears
returns-clause-hears c = hears_shown

pub returns-clause-stays : goal.returns-clause-stays
returns-clause-stays c = stays_shown
