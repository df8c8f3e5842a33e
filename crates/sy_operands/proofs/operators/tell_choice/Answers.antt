use Rattle.std.proofs.Common.{sym, ap, ◌∙◌, ◌++◌}
use Rattle.sy_note.specs.declared.Code.TheVariants as code
use Rattle.sy_rules.specs.Faults.{at}
use Rattle.sy_rules.specs.Seen.{no_integer, unread}
use Rattle.sy_findings.specs.Told.{told}
use Rattle.sy_constructs.proofs.SoundLemmas.{told_two}
use Rattle.sy_operands.proofs.operators.tell_choice.Goals as goal

pub returns : goal.returns
returns c =
    let a = c.args.a in
    let b = c.args.b in
    let d = c.args.c in
    c.all_unread.ensures
    ∙ ap (λ f. told f (at code.ModeBroken (unread a ++ (unread b ++ unread d)))) c.all_integers.ensures
    ∙ sym (told_two c.args.findings.now (at code.WrongOperand (no_integer a ++ (no_integer b ++ no_integer d))) (at code.ModeBroken (unread a ++ (unread b ++ unread d))))
