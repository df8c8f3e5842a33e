use Rattle.std.proofs.Common.{ap, sym, ◌∙◌}
use Rattle.sy_outline.specs.Parts.{of_printed}
use Rattle.sy_outline.proofs.FormLemmas.{printed_Bytes, printed_EndLine, printed_Operand}
use Rattle.sy_outline.proofs.lambdas.operand_of.Goals as goal

pub returns-in-Operand : goal.returns-in-Operand
returns-in-Operand c = sym (ap of_printed c.in-Operand.is ∙ printed_Operand _ _)

pub returns-in-Bytes : goal.returns-in-Bytes
returns-in-Bytes c = sym (ap of_printed c.in-Bytes.is ∙ printed_Bytes _ _ _)

pub returns-in-EndLine : goal.returns-in-EndLine
returns-in-EndLine c = sym (ap of_printed c.in-EndLine.is ∙ printed_EndLine _ _)
