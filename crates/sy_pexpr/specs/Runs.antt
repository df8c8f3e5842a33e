-- What the public calls say of the runs of tokens from a place on.
use Rattle.std.specs.Prelude.{◌≡◌, ℕ, List}
use Rattle.sy_lex.specs.declared.Token.{Token}
use Rattle.sy_tree.specs.declared.tree.Block.{Block}
use Rattle.sy_tree.specs.declared.tree.Expr.{Expr}
use Rattle.sy_tree.specs.Units.{IsExpression, IsBlock}

-- No other run from there on is an expression, and none is another one.
abbrev pub IsOnlyExpression : List Token → ℕ → Expr → ℕ → Type 0
IsOnlyExpression tokens at x end = (y : Expr) (other : ℕ) → IsExpression tokens at y other → (y ≡ x) × (other ≡ end)

abbrev pub IsOnlyBlock : List Token → ℕ → Block → ℕ → Type 0
IsOnlyBlock tokens at b end = (c : Block) (other : ℕ) → IsBlock tokens at c other → (c ≡ b) × (other ≡ end)

-- No run from there on is an expression.
abbrev pub HasNoExpression : List Token → ℕ → Type 0
HasNoExpression tokens at = (x : Expr) (end : ℕ) → IsExpression tokens at x end → ⊥

-- No run from there on is a block.
abbrev pub HasNoBlock : List Token → ℕ → Type 0
HasNoBlock tokens at = (b : Block) (end : ℕ) → IsBlock tokens at b end → ⊥
