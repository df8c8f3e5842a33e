-- Readers of what follows a part that has been read.
use Rattle.std.specs.Prelude.{codes}
use Rattle.sy_lex.specs.declared.Row.TheVariants as row
use Rattle.sy_tree.specs.declared.tree.FullExpression.{FullExpression}
use Rattle.sy_tree.specs.declared.tree.Stmt.{Stmt}
use Rattle.sy_tree.specs.declared.tree.Stmt.TheVariants as t
use Rattle.sy_reading.specs.Input.{Reader, WithHeight, ◌>>=◌, check_height, expect}

-- the rest of an expression statement
abbrev pub expression_rest : WithHeight FullExpression → Reader (WithHeight Stmt)
expression_rest x = do
  e ← expect row.Mark (codes ";")
  check_height (t.Expression x.0 e) x.1
