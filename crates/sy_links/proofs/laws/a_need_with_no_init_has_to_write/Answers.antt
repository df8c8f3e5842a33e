use Rattle.sy_links.proofs.ExampleLemmas.{replaced, kept, lost}
use Rattle.sy_links.proofs.laws.a_need_with_no_init_has_to_write.Goals as goal

pub returns-clause-replaced : goal.returns-clause-replaced
returns-clause-replaced c = replaced

pub returns-clause-kept : goal.returns-clause-kept
returns-clause-kept c = kept

pub returns-clause-lost : goal.returns-clause-lost
returns-clause-lost c = lost
