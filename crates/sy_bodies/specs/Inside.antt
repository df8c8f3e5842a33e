-- What a statement asks of the walks over what stands in it.
use Rattle.std.specs.Prelude.{ℕ, Result}
use denote.Ref.{Bor, MutBor}
use Rattle.sy_looks.specs.Looked.{Looked}
use Rattle.sy_looks.specs.declared.walk.Walk.{Walk}
use Rattle.sy_rules.specs.declared.library.Role.{Role}
use Rattle.sy_rules.specs.declared.seen.Seen.{Seen}
use Rattle.sy_rules.specs.declared.seen.SeenLambda.{SeenLambda}
use Rattle.sy_rules.specs.declared.statements.Standing.{Standing}
use Rattle.sy_rules.specs.Walk.{block, stmt}
use Rattle.sy_tree.specs.declared.tree.Block.{Block}
use Rattle.sy_tree.specs.declared.tree.Expr.{Expr}
use Rattle.sy_tree.specs.declared.tree.Lambda.{Lambda}
use Rattle.sy_tree.specs.declared.tree.Stmt.{Stmt}
use Rattle.sy_typed.specs.declared.tree.Typed.{Typed}
use Rattle.sy_typed.specs.declared.tree.TypedBlock.{TypedBlock}
use Rattle.sy_typed.specs.declared.tree.TypedLambda.{TypedLambda}
use Rattle.sy_typed.specs.declared.tree.TypedStmt.{TypedStmt}
use Rattle.sy_walk.specs.Below.{LooksBelow}

-- a function value that looks at statements, to a depth
pub record LooksAtStatements {Stop : Type 0} (depth : ℕ)
    (stmt_pre : MutBor Walk → ℕ → Standing → Bor Stmt → Type 0) (stmt_post : MutBor Walk → ℕ → Standing → Bor Stmt → Result TypedStmt Stop → MutBor Walk → Type 0) : Type 0 where
  pub stmt_callable : (old : MutBor Walk) (own : Standing) (s : Bor Stmt) → stmt_pre old depth own s
  pub stmt_looks : (old new : MutBor Walk) (own : Standing) (s : Bor Stmt) (r : Result TypedStmt Stop) → stmt_post old depth own s r new → Looked (stmt s.now own) old.now r new.now

-- function values that look at expressions, lambdas, statements and blocks, to a depth
pub record LooksInside {Stop : Type 0} (depth : ℕ)
    (expr_pre : MutBor Walk → ℕ → Bor Expr → Type 0) (expr_post : MutBor Walk → ℕ → Bor Expr → Result (Seen × Typed) Stop → MutBor Walk → Type 0)
    (lambda_pre : MutBor Walk → ℕ → Role → Bor Lambda → Type 0) (lambda_post : MutBor Walk → ℕ → Role → Bor Lambda → Result (SeenLambda × TypedLambda) Stop → MutBor Walk → Type 0)
    (stmt_pre : MutBor Walk → ℕ → Standing → Bor Stmt → Type 0) (stmt_post : MutBor Walk → ℕ → Standing → Bor Stmt → Result TypedStmt Stop → MutBor Walk → Type 0)
    (block_pre : MutBor Walk → ℕ → Bor Block → Type 0) (block_post : MutBor Walk → ℕ → Bor Block → Result TypedBlock Stop → MutBor Walk → Type 0) : Type 0 where
  pub below : LooksBelow depth expr_pre expr_post lambda_pre lambda_post
  pub stmt_callable : (old : MutBor Walk) (own : Standing) (s : Bor Stmt) → stmt_pre old depth own s
  pub stmt_looks : (old new : MutBor Walk) (own : Standing) (s : Bor Stmt) (r : Result TypedStmt Stop) → stmt_post old depth own s r new → Looked (stmt s.now own) old.now r new.now
  pub block_callable : (old : MutBor Walk) (b : Bor Block) → block_pre old depth b
  pub block_looks : (old new : MutBor Walk) (b : Bor Block) (r : Result TypedBlock Stop) → block_post old depth b r new → Looked (block b.now) old.now r new.now
