use Rattle.sy_note.specs.declared.FrontStop.TheVariants as FrontStop
use Rattle.sy_rulelaws.proofs.UnitLemmas.{first_is_typing}
use Rattle.sy_top.proofs.Trees.{another, accepted_if, only_accepted, not_a_source, broken_source}
use Rattle.sy_top.proofs.source.accepted_tree.Goals as goal

pub returns-in-Ok-clause-found : goal.returns-in-Ok-clause-found
returns-in-Ok-clause-found c = accepted_if c.args.bytes.now c.in-Ok.unit c.in-Ok.ensures.found c.in-Ok.ensures.only c.unbroken.result c.unbroken.ensures.same c.unbroken.ensures.ok

pub returns-in-Ok-clause-only : goal.returns-in-Ok-clause-only
returns-in-Ok-clause-only c = only_accepted c.args.bytes.now c.in-Ok.unit c.in-Ok.ensures.found c.in-Ok.ensures.only c.unbroken.result c.unbroken.ensures.same

pub returns-in-Ok-clause-refused : goal.returns-in-Ok-clause-refused
returns-in-Ok-clause-refused c = λ d e.
    let first = c.unbroken.ensures.refused d e in
    broken_source c.args.bytes.now c.in-Ok.unit c.in-Ok.ensures.found c.in-Ok.ensures.only d (first_is_typing c.in-Ok.unit d first) first

pub returns-in-Err-clause-refused : goal.returns-in-Err-clause-refused
returns-in-Err-clause-refused c = λ d e. not_a_source c.args.bytes.now d (c.in-Err.ensures.refused d (another c.in-Err.stop (FrontStop.Refused d) e))
