use Rattle.sy_commands.proofs.ListLemmas.{goes_on}
use Rattle.sy_commands.proofs.laws.an_expression_goes_on_after_its_operands.Goals as goal

pub returns : goal.returns
returns c = goes_on
