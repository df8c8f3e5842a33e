use Rattle.std.proofs.Common.{sym, ap, ◌∙◌, ◌++◌}
use Rattle.sy_note.specs.declared.Code.TheVariants as code
use Rattle.sy_rules.specs.Faults.{at}
use Rattle.sy_rules.specs.Seen.{no_integer}
use Rattle.sy_findings.specs.Told.{told}
use Rattle.sy_findings.proofs.ToldLemmas.{told_at}
use Rattle.sy_operands.proofs.operators.all_integers.Goals as goal

pub returns : goal.returns
returns c =
    let f = c.args.findings.now in
    let a = no_integer c.args.a in
    let b = no_integer c.args.b in
    let d = no_integer c.args.c in
    c.no_integer-3.ensures
    ∙ ap (λ g. told g (at code.WrongOperand d)) (c.no_integer-2.ensures ∙ ap (λ g. told g (at code.WrongOperand b)) c.no_integer.ensures)
    ∙ sym (told_at f code.WrongOperand a (b ++ d) ∙ told_at (told f (at code.WrongOperand a)) code.WrongOperand b d)
