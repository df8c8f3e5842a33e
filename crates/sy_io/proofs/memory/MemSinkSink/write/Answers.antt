use Rattle.sy_io.proofs.Counted.{fault_counted}
use Rattle.sy_io.proofs.memory.MemSinkSink.write.Goals as goal

pub returns-then-is_listed-clause-cause : goal.returns-then-is_listed-clause-cause
returns-then-is_listed-clause-cause c =
    rw (← c.self.view_is) (fault_counted _ _ _ _ c.next_fails-is_listed.ensures.counted c.count_fault.ensures.counted c.count_fault.ensures.later)
