-- What is read is in the grammar.
use Rattle.std.proofs.Common.{◌≡◌, ℕ, zero, suc, ◌≤◌, List, Some}
use Rattle.sy_lex.specs.declared.Token.{Token}
use Rattle.sy_tree.specs.declared.tree.Expr.{Expr}
use Rattle.sy_tree.specs.declared.tree.Stmt.{Stmt}
use Rattle.sy_reading.specs.Input.{WithHeight}
use Rattle.sy_reading.specs.Reading as r
use Rattle.sy_reading.proofs.ExprSoundLemmas.{ExprSound, StmtStands, chain_is}
use Rattle.sy_reading.proofs.StmtSoundLemmas.{one_lambda_is, one_stmt_is}

-- An expression that is read stands at the front of the tokens, and what follows doesn't go on with it; so does a statement.
pub reads_sound : (n : ℕ) →
    ((l : ℕ) (from rest : List Token) (t : WithHeight Expr) → 1 ≤ l → l ≤ 12 → r.read_expr n l from ≡ Some (t, rest) → ExprSound l t from rest)
    × ((from rest : List Token) (t : WithHeight Stmt) → r.read_stmt n from ≡ Some (t, rest) → StmtStands t from rest)
unfolding r.readers
reads_sound zero = (λ l from rest t some top h. absurd cc, λ from rest t h. absurd cc)
reads_sound (suc n) =
    let below = reads_sound n in
    let lambdas = one_lambda_is (r.readers n).0 (r.readers n).1 below.1 in (
      λ l from rest t some top h. chain_is (r.readers n).0 (r.readers n).1 below.0 lambdas l some top from rest t h,
      λ from rest t h. one_stmt_is (r.readers n).0 (r.readers n).1 below.0 below.1 from rest t h,
    )
