use Rattle.sy_reading.proofs.AnswerLaws.{expr_found, block_found}
use Rattle.sy_reading.proofs.what_is_read_is_in_the_grammar.Goals as goal

pub returns-clause-expressions : goal.returns-clause-expressions
returns-clause-expressions c = λ tokens at x rest. expr_found tokens at x rest

pub returns-clause-blocks : goal.returns-clause-blocks
returns-clause-blocks c = λ tokens at b rest. block_found tokens at b rest
