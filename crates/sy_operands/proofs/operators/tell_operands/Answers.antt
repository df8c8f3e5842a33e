use Rattle.std.proofs.Common.{sym, ap, ◌∙◌, ◌++◌}
use Rattle.sy_note.specs.declared.Code.TheVariants as code
use Rattle.sy_rules.specs.ExprRules.{wrong_operands}
use Rattle.sy_rules.specs.Faults.{at}
use Rattle.sy_rules.specs.Seen.{unread}
use Rattle.sy_findings.specs.Told.{told}
use Rattle.sy_constructs.proofs.SoundLemmas.{told_two}
use Rattle.sy_operands.proofs.operators.tell_operands.Goals as goal

pub returns : goal.returns
returns c =
    let a = c.args.a in
    let b = c.args.b in
    c.both_unread.ensures
    ∙ ap (λ f. told f (at code.ModeBroken (unread a ++ unread b))) c.wrong_operands.ensures
    ∙ sym (told_two c.args.findings.now (at code.WrongOperand (wrong_operands c.args.op a b)) (at code.ModeBroken (unread a ++ unread b)))
