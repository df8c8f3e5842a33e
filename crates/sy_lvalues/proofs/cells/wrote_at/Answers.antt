use Rattle.std.proofs.Common.{◌≡◌, rules}
use Rattle.std.specs.Prelude.{None, Some, slice_get}
use Rattle.sy_lvalues.proofs.StepLemmas.{none_there, wrote_there}
use Rattle.sy_lvalues.proofs.cells.wrote_at.Goals as goal

pub returns-in-Some : goal.returns-in-Some
returns-in-Some c =
    let there : Some c.in-Some.step.now ≡ slice_get c.args.steps.now c.args.at = search rules in
    wrote_there c.wrote.result c.args.steps.now c.args.at c.in-Some.step.now c.args.cell there c.wrote.ensures

pub returns-in-None : goal.returns-in-None
returns-in-None c =
    let none : None ≡ slice_get c.args.steps.now c.args.at = search rules in
    none_there c.args.steps.now c.args.at c.args.cell none
