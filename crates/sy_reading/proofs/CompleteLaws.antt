-- What is in the grammar is read.
use Rattle.std.proofs.Common.{ℕ, zero, suc, ◌≤◌, ◌<◌, List, arith}
use Rattle.sy_lex.specs.declared.Token.{Token}
use Rattle.sy_tree.specs.declared.tree.Expr.{Expr}
use Rattle.sy_tree.specs.declared.tree.Stmt.{Stmt}
use Rattle.sy_tree.specs.Expressions.{an_expr, a_stmt}
use Rattle.sy_tree.specs.Grammar.{Derives}
use Rattle.sy_reading.specs.Exprs.{binds}
use Rattle.sy_reading.specs.Reading as r
use Rattle.sy_reading.proofs.ReadStepLemmas.{ReadsAs}
use Rattle.sy_reading.proofs.ExprReadLemmas.{chain_read, stmt_read}

-- An expression at the front of the tokens, which what follows doesn't go on with, is read; so is a statement.
pub completes : (n : ℕ) → n ≤ 64 →
    ((m l : ℕ) (x : Expr) (from rest : List Token) → m ≤ n → l ≤ 13 → Derives m (an_expr l x) from rest → binds rest < l → ReadsAs (r.read_expr n l from) m x rest)
    × ((m : ℕ) (x : Stmt) (from rest : List Token) → m ≤ n → Derives m (a_stmt x) from rest → ReadsAs (r.read_stmt n from) m x rest)
unfolding r.readers Derives
completes zero top = (none_expr, none_stmt)
  where
    none_expr : (m l : ℕ) (x : Expr) (from rest : List Token) → m ≤ 0 → l ≤ 13 → Derives m (an_expr l x) from rest → binds rest < l → ReadsAs (r.read_expr 0 l from) m x rest
    none_expr zero l x from rest le high d lt = absurd d
    none_expr (suc m) l x from rest le high d lt = absurd (omega arith)

    none_stmt : (m : ℕ) (x : Stmt) (from rest : List Token) → m ≤ 0 → Derives m (a_stmt x) from rest → ReadsAs (r.read_stmt 0 from) m x rest
    none_stmt zero x from rest le d = absurd d
    none_stmt (suc m) x from rest le d = absurd (omega arith)
completes (suc n) top =
    let below = completes n (omega arith) in
    let whole_stmt : (m : ℕ) (x : Stmt) (from rest : List Token) → m ≤ n → Derives m (a_stmt x) from rest → ReadsAs ((r.readers n).1 from) m x rest = below.1 in
    let whole : (m l : ℕ) (x : Expr) (from rest : List Token) → m ≤ n → l ≤ 13 → Derives m (an_expr l x) from rest → binds rest < l → ReadsAs ((r.readers n).0 l from) m x rest = below.0 in (
      λ m l x from rest le high d lt. chain_read (r.readers n).0 (r.readers n).1 n (omega arith) whole_stmt whole m l le high x from rest d lt,
      λ m x from rest le d. stmt_read (r.readers n).0 (r.readers n).1 n (omega arith) whole_stmt whole m le x from rest d,
    )
