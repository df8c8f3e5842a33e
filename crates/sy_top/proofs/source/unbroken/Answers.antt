use Rattle.sy_note.specs.declared.FrontStop.TheVariants as FrontStop
use Rattle.sy_top.proofs.Trees.{another}
use Rattle.sy_top.proofs.source.unbroken.Goals as goal

pub returns-in-Ok-clause-ok : goal.returns-in-Ok-clause-ok
returns-in-Ok-clause-ok c = c.in-Ok.ensures.unbroken

pub returns-in-Err-clause-refused : goal.returns-in-Err-clause-refused
returns-in-Err-clause-refused c = λ d e. c.in-Err.ensures.refused d (another c.in-Err.broken (FrontStop.Refused d) e)
