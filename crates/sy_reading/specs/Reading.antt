-- Readers of whole expressions and statements.
use Rattle.std.specs.Prelude.{ℕ, zero, suc}
use Rattle.sy_tree.specs.declared.tree.Block.{Block}
use Rattle.sy_tree.specs.declared.tree.Expr.{Expr}
use Rattle.sy_tree.specs.declared.tree.Stmt.{Stmt}
use Rattle.sy_reading.specs.Input.{Reader, WithHeight, refuse}
use Rattle.sy_reading.specs.Exprs.{chain, one_block}
use Rattle.sy_reading.specs.Stmts.{one_stmt}

-- The number bounds how deep expressions and statements may nest.
unfoldable pub readers : ℕ → (ℕ → Reader (WithHeight Expr)) × Reader (WithHeight Stmt)
readers zero = (λ least. refuse, refuse)
readers (suc n) = (chain (readers n).0 (readers n).1, one_stmt (readers n).0 (readers n).1)

-- an expression whose loosest operator is of that level or tighter
abbrev pub read_expr : ℕ → ℕ → Reader (WithHeight Expr)
read_expr n least = (readers n).0 least

abbrev pub read_stmt : ℕ → Reader (WithHeight Stmt)
read_stmt n = (readers n).1

abbrev pub read_block : ℕ → Reader (WithHeight Block)
read_block n = one_block (readers n).0 (readers n).1
