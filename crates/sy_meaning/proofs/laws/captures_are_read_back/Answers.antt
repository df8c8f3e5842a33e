use Rattle.sy_meaning.proofs.CaptureLemmas.{all_read_back, declared_has_type}
use Rattle.sy_meaning.proofs.laws.captures_are_read_back.Goals as goal

pub returns-clause-given : goal.returns-clause-given
returns-clause-given c = all_read_back

pub returns-clause-declared : goal.returns-clause-declared
returns-clause-declared c = declared_has_type
