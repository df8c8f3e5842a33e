use Rattle.sy_scripted.proofs.Playing.{asks_on}
use Rattle.sy_scripted.proofs.scripts.ScriptedHost.next.Goals as goal

pub returns-clause-asks : goal.returns-clause-asks
returns-clause-asks c = λ n body captures answers stands. asks_on n _ _ body captures answers _ _ _ stands c.in_ok-ask.ensures
