use Rattle.sy_coreboard.proofs.TallyLemmas.{made_more, counted_more, copies-more, adds_none, copies-buffer, copies-alike}
use Rattle.sy_coreboard.proofs.laws.copies_are_tallied.Goals as goal

pub returns-clause-made : goal.returns-clause-made
returns-clause-made c = made_more

pub returns-clause-counted : goal.returns-clause-counted
returns-clause-counted c = counted_more

pub returns-clause-copies : goal.returns-clause-copies
returns-clause-copies c = copies-more

pub returns-clause-unnamed : goal.returns-clause-unnamed
returns-clause-unnamed c = adds_none

pub returns-clause-buffer : goal.returns-clause-buffer
returns-clause-buffer c = copies-buffer

pub returns-clause-alike : goal.returns-clause-alike
returns-clause-alike c = copies-alike
