use Rattle.sy_access.proofs.Meeting.{conflict_tells, conflict_at, conflict_void}
use Rattle.sy_access.proofs.access.conflict_is_a_shared_element.Goals as goal

pub returns-clause-sound : goal.returns-clause-sound
returns-clause-sound c = conflict_tells

pub returns-clause-shared : goal.returns-clause-shared
returns-clause-shared c = conflict_at

pub returns-clause-empty : goal.returns-clause-empty
returns-clause-empty c = conflict_void
