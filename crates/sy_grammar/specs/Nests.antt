-- What a rule asks of the parsers below it.
use Rattle.std.specs.Prelude.{ℕ, Result}
use denote.Ref.{MutBor}
use Rattle.sy_tree.specs.declared.tree.Expr.{Expr}
use Rattle.sy_tree.specs.declared.tree.Stmt.{Stmt}
use Rattle.sy_cursor.specs.declared.cursor.Stop.{Stop}
use Rattle.sy_cursor.specs.declared.cursor.Tokens.{Tokens}
use Rattle.sy_cursor.specs.Reads.{Reads}
use Rattle.sy_reading.specs.Input.{WithHeight}
use Rattle.sy_reading.specs.Reading.{read_expr, read_stmt}

-- function values that parse expressions and statements to a depth
pub record Nests (depth : ℕ)
    (expr_pre : MutBor Tokens → ℕ → ℕ → Type 0) (expr_post : MutBor Tokens → ℕ → ℕ → Result (WithHeight Expr) Stop → MutBor Tokens → Type 0)
    (stmt_pre : MutBor Tokens → ℕ → Type 0) (stmt_post : MutBor Tokens → ℕ → Result (WithHeight Stmt) Stop → MutBor Tokens → Type 0) : Type 0 where
  pub expr_callable : (old : MutBor Tokens) (least : ℕ) → expr_pre old depth least
  pub expr_reads : (old new : MutBor Tokens) (least : ℕ) (r : Result (WithHeight Expr) Stop) → expr_post old depth least r new
      → Reads (read_expr depth least old.now.rest.now) r new.now.rest.now
  pub stmt_callable : (old : MutBor Tokens) → stmt_pre old depth
  pub stmt_reads : (old new : MutBor Tokens) (r : Result (WithHeight Stmt) Stop) → stmt_post old depth r new
      → Reads (read_stmt depth old.now.rest.now) r new.now.rest.now
