use Rattle.sy_pexpr.proofs.recursion.+parser.Given as goal

abbrev pub decreases-read_expr : goal.decreases-read_expr
decreases-read_expr l = l.depth

abbrev pub decreases-read_stmt : goal.decreases-read_stmt
decreases-read_stmt l = l.depth
