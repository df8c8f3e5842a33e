use Rattle.std.proofs.Common.{ap, sym, ◌∙◌}
use Rattle.sy_declare.proofs.FormLemmas.{printed_Operand, printed_Text, printed_EndLine}
use Rattle.sy_declare.proofs.printing.printed.Goals as goal
use Rattle.sy_declare.specs.Trees.{printed}
use Rattle.sy_looks.proofs.LookLemmas.{looked_as}
use Rattle.sy_looks.specs.Looked.{looked}
use Rattle.sy_rules.specs.Walk.{expr, printed_step}
use Rattle.sy_tree.specs.declared.tree.Argument.TheOpen.{Printed-F}
use Rattle.sy_typed.specs.declared.tree.TypedPrinted.TheVariants as typed

pub returns-in-Operand : goal.returns-in-Operand
returns-in-Operand g c =
    let i = c.in-Operand in
    looked_as (printed c.args.p.now) (printed_step (Printed-F.Operand i.s (expr i.a))) c.args.w.now _ _
    (ap printed i.is ∙ printed_Operand i.s i.a) c.operand.ensures

pub returns-in_ok-text-in-Text : goal.returns-in_ok-text-in-Text
returns-in_ok-text-in-Text g c =
    let i = c.in-Text in
    ap (λ t. (typed.Bytes i.s t i.x.spot, c.args.w.now)) c.in_ok-text-in-Text.ensures
    ∙ ap (λ l. looked l c.args.w.now) (sym (ap printed i.is ∙ printed_Text i.s i.x))

pub returns-in-EndLine : goal.returns-in-EndLine
returns-in-EndLine g c =
    let i = c.in-EndLine in
    ap (λ l. looked l c.args.w.now) (sym (ap printed i.is ∙ printed_EndLine i.s i.q))
