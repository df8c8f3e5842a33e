-- One construct of the source over what is seen of its parts. What no rule looks at is skipped.
use Rattle.sy_tree.specs.declared.tree.Argument.TheOpen.{Expr-F, FullExpression-F, Stmt-F}
use Rattle.sy_rules.specs.declared.seen.Seen.{Seen}
use Rattle.sy_rules.specs.declared.seen.SeenArgument.{SeenArgument}

abbrev pub Skipped : Type 0
Skipped = Unit

abbrev pub SeenExpr : Type 0
SeenExpr = Expr-F SeenArgument Skipped Skipped Seen Skipped Skipped Skipped Skipped Skipped Skipped

abbrev pub SeenFull : Type 0
SeenFull = FullExpression-F Skipped Skipped Skipped Seen Skipped Skipped Skipped Skipped Skipped Skipped

abbrev pub SeenStmt : Type 0
SeenStmt = Stmt-F Skipped Skipped Skipped Seen Skipped Skipped Skipped Skipped Skipped Skipped
