use Rattle.sy_reading.proofs.OneTreeLaws.{one_expr, one_block}
use Rattle.sy_reading.proofs.there_is_one_tree_at_most.Goals as goal

pub returns-clause-expressions : goal.returns-clause-expressions
returns-clause-expressions c = one_expr

pub returns-clause-blocks : goal.returns-clause-blocks
returns-clause-blocks c = one_block
