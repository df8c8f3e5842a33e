use Rattle.sy_reading.proofs.RunLaws.{runs_are_read, blocks_are_read}
use Rattle.sy_reading.proofs.what_is_in_the_grammar_is_read.Goals as goal

pub returns-clause-expressions : goal.returns-clause-expressions
returns-clause-expressions c = λ tokens at x end. runs_are_read tokens at x end

pub returns-clause-blocks : goal.returns-clause-blocks
returns-clause-blocks c = λ tokens at b end. blocks_are_read tokens at b end
