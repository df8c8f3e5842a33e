use Rattle.sy_check.proofs.knot.+checker.Given as goal

abbrev pub decreases-walk_expr : goal.decreases-walk_expr
decreases-walk_expr l = l.depth

abbrev pub decreases-walk_lambda : goal.decreases-walk_lambda
decreases-walk_lambda l = l.depth

abbrev pub decreases-walk_stmt : goal.decreases-walk_stmt
decreases-walk_stmt l = l.depth

abbrev pub decreases-walk_block : goal.decreases-walk_block
decreases-walk_block l = l.depth
