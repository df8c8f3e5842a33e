use Rattle.sy_access.proofs.Meeting.{conflict_comm, is_apart_comm}
use Rattle.sy_access.proofs.access.needs_meet_both_ways.Goals as goal

pub returns-clause-conflict : goal.returns-clause-conflict
returns-clause-conflict c = conflict_comm

pub returns-clause-apart : goal.returns-clause-apart
returns-clause-apart c = is_apart_comm
