use Rattle.sy_check.proofs.CheckLemmas.{another, broken_first, nothing_broken, program_known}
use Rattle.sy_check.proofs.sources.check.Goals as goal
use Rattle.sy_note.specs.declared.FrontStop.TheVariants as stop
use Rattle.sy_rules.specs.Units.{broken_rules}

pub returns-in-Ok-judged-clause-unbroken : goal.returns-in-Ok-judged-clause-unbroken
returns-in-Ok-judged-clause-unbroken c = nothing_broken (broken_rules c.args.unit.now) c.in-Ok.file.first c.in-Ok.ensures.first c.in-Ok-judged.ensures.unbroken

pub returns-in-Ok-judged-clause-typed : goal.returns-in-Ok-judged-clause-typed
returns-in-Ok-judged-clause-typed c =
    program_known c.args.unit.now c.in-Ok-judged.typed c.in-Ok.file.constants c.in-Ok.file.functions c.in-Ok-judged.ensures.typed c.in-Ok.ensures.constants c.in-Ok.ensures.functions

pub returns-in-Err-judged-clause-refused : goal.returns-in-Err-judged-clause-refused
returns-in-Err-judged-clause-refused c = λ d e.
    broken_first (broken_rules c.args.unit.now) c.in-Ok.file.first d c.in-Ok.ensures.first (c.in-Err-judged.ensures.refused d (another c.in-Err-judged.stop (stop.Refused d) e))
