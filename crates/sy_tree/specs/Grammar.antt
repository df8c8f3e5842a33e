-- Which tokens are which tree, for every sort of node.
use Rattle.std.specs.Prelude.{◌≡◌, ℕ, zero, suc, ◌≤◌, List, length, drop}
use Rattle.sy_lex.specs.declared.Token.{Token}
use Rattle.sy_tree.specs.declared.tree.Block.{out-Block}
use Rattle.sy_tree.specs.declared.tree.Expr.{out-Expr}
use Rattle.sy_tree.specs.declared.tree.FullExpression.{out-FullExpression}
use Rattle.sy_tree.specs.declared.tree.Lambda.{out-Lambda}
use Rattle.sy_tree.specs.declared.tree.Stmt.{out-Stmt}
use Rattle.sy_tree.specs.Expressions.{Node, an_expr, a_lambda, a_full, a_block, a_stmt, ExprRule, LambdaRule}
use Rattle.sy_tree.specs.Lists.{Rule}
use Rattle.sy_tree.specs.Statements.{BlockRule, FullRule, StmtRule}

-- one level of a tree, where `Sub` says the same of the nodes below
abbrev pub NodeRule : Rule Node → Rule Node
NodeRule Sub (an_expr least x) from rest = ExprRule Sub least (out-Expr x) from rest
NodeRule Sub (a_lambda l) from rest = LambdaRule Sub (out-Lambda l) from rest
NodeRule Sub (a_full x) from rest = FullRule Sub (out-FullExpression x) from rest
NodeRule Sub (a_block b) from rest = BlockRule Sub (out-Block b) from rest
NodeRule Sub (a_stmt x) from rest = StmtRule Sub (out-Stmt x) from rest

-- The tree of this node, whose height is at most that, stands at the front of `from`, and `rest` follows it.
unfoldable pub Derives : ℕ → Node → List Token → List Token → Type 0
Derives zero x from rest = ⊥
Derives (suc n) x from rest = NodeRule (Derives n) x from rest

-- the greatest height of a tree
abbrev pub max_height : ℕ
max_height = 64

-- `rest` is `from` without its first tokens, so many at least
pub record Passes (least : ℕ) (from rest : List Token) : Type 0 where
  pub taken : ℕ
  pub enough : least ≤ taken
  pub within : taken ≤ length from
  pub is : rest ≡ drop taken from
