use Rattle.std.proofs.Common.{◌∙◌, ap}
use Rattle.sy_facts.proofs.FormLemmas.{printing_Operand, told_is}
use Rattle.sy_facts.specs.Parts.{printing}
use Rattle.sy_meaning.specs.Statements.{Printing}
use Rattle.sy_typed.specs.declared.tree.TypedPrinted.{TypedPrinted}
use Rattle.sy_facts.proofs.statements.printed_makes.Goals as goal

pub returns-in-Operand : goal.returns-in-Operand
returns-in-Operand c = λ calls limit.
    told_is calls limit c.makes.result _ _ (ap (λ (x : TypedPrinted). (printing calls limit x).makes) c.in-Operand.is ∙ ap (λ (x : Printing). x.makes) (printing_Operand calls limit _ _)) (c.makes.ensures calls limit)
