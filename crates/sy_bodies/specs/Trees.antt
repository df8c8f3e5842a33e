-- What a part that may be left out is looked at as.
use Rattle.std.specs.Prelude.{Option, Some, None}
use Rattle.sy_declare.specs.Trees.{full}
use Rattle.sy_rules.specs.Walk.{Ex, Fu, St, expr, stmt}
use Rattle.sy_tree.specs.declared.tree.Expr.{Expr}
use Rattle.sy_tree.specs.declared.tree.FullExpression.{FullExpression}
use Rattle.sy_tree.specs.declared.tree.Stmt.{Stmt}

abbrev pub maybe_expr : Option Expr → Option Ex
maybe_expr None = None
maybe_expr (Some a) = Some (expr a)

abbrev pub maybe_full : Option FullExpression → Option Fu
maybe_full None = None
maybe_full (Some f) = Some (full f)

abbrev pub maybe_stmt : Option Stmt → Option St
maybe_stmt None = None
maybe_stmt (Some s) = Some (stmt s)
