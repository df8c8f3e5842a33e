use Rattle.std.proofs.Common.{ap, sym, ◌∙◌}
use Rattle.sy_note.specs.declared.Code.TheVariants as code
use Rattle.sy_rules.specs.Faults.{at}
use Rattle.sy_findings.specs.Told.{told}
use Rattle.sy_captures.proofs.CaptureLemmas.{bad_in_sound}
use Rattle.sy_captures.proofs.lists.bad_lambda.Goals as goal

pub returns-in-None : goal.returns-in-None
returns-in-None c = λ ds e.
    c.unfit.ensures
    ∙ ap (λ ss. told c.args.findings.now (at code.BadLambda ss)) (bad_in_sound c.args.role c.args.s c.args.cs.now c.args.ps.now ds (sym c.in-None.is ∙ e))
