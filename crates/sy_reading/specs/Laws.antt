-- What the readers promise of the grammar.
use Rattle.std.specs.Prelude.{◌≡◌, ℕ, ◌-◌, ◌≤◌, true, List, length, drop, Some}
use Rattle.sy_lex.specs.declared.Token.{Token}
use Rattle.sy_tree.specs.declared.tree.Block.{Block}
use Rattle.sy_tree.specs.declared.tree.Expr.{Expr}
use Rattle.sy_tree.specs.Units.{IsExpression, IsBlock, ends}
use Rattle.sy_reading.specs.Input.{WithHeight}
use Rattle.sy_reading.specs.Reading.{read_expr, read_block}

-- An expression that is read from a place on, up to what ends it, is one of the grammar.
abbrev pub ReadExprsAreRuns : Type 0
ReadExprsAreRuns = (tokens : List Token) (at : ℕ) (x : WithHeight Expr) (rest : List Token) → at ≤ length tokens →
    read_expr 64 1 (drop at tokens) ≡ Some (x, rest) → ends rest ≡ true → IsExpression tokens at x.0 (length tokens - length rest)

-- A block that is read from a place on is one of the grammar.
abbrev pub ReadBlocksAreBlocks : Type 0
ReadBlocksAreBlocks = (tokens : List Token) (at : ℕ) (b : WithHeight Block) (rest : List Token) → at ≤ length tokens →
    read_block 64 (drop at tokens) ≡ Some (b, rest) → IsBlock tokens at b.0 (length tokens - length rest)

-- Each run of tokens that is an expression of the grammar is what is read there, up to its end.
abbrev pub RunsAreRead : Type 0
RunsAreRead = (tokens : List Token) (at : ℕ) (x : Expr) (end : ℕ) → IsExpression tokens at x end →
    (height : ℕ) × (read_expr 64 1 (drop at tokens) ≡ Some ((x, height), drop end tokens))

-- Each run of tokens that is a block of the grammar is what is read there, up to its end.
abbrev pub BlocksAreRead : Type 0
BlocksAreRead = (tokens : List Token) (at : ℕ) (b : Block) (end : ℕ) → IsBlock tokens at b end →
    (height : ℕ) × (read_block 64 (drop at tokens) ≡ Some ((b, height), drop end tokens))

-- From one place on one run of tokens at most is an expression, of one tree.
abbrev pub OneExpr : Type 0
OneExpr = (tokens : List Token) (at : ℕ) (x y : Expr) (end other : ℕ) → IsExpression tokens at x end → IsExpression tokens at y other → (x ≡ y) × (end ≡ other)

-- From one place on one run of tokens at most is a block, of one tree.
abbrev pub OneBlock : Type 0
OneBlock = (tokens : List Token) (at : ℕ) (x y : Block) (end other : ℕ) → IsBlock tokens at x end → IsBlock tokens at y other → (x ≡ y) × (end ≡ other)
