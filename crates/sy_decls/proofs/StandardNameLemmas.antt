-- A declaration with a type of the library of C++ is its name, and then what that name declares.
use Rattle.std.proofs.Common.{◌≡◌, ℕ, List, Some, refl, codes}
use Rattle.sy_lex.specs.declared.Token.{Token}
use Rattle.sy_note.specs.declared.Spot.{Spot}
use Rattle.sy_tree.specs.declared.parts.Lexeme.{Lexeme}
use Rattle.sy_tree.specs.declared.parts.Qualified.{Qualified}
use Rattle.sy_tree.specs.declared.tree.Expr.{Expr}
use Rattle.sy_tree.specs.declared.tree.Stmt.{Stmt}
use Rattle.sy_reading.specs.Input.{Reader, WithHeight, expect_name, qualified_name}
use Rattle.sy_reading.specs.Stmts.{standard_declaration}
use Rattle.sy_decls.specs.StandardNames.{standard_by}

pub standard_parts : (expr : ℕ → Reader (WithHeight Expr)) (stmt : Reader (WithHeight Stmt)) (from rest : List Token) (s : Spot) (x : Lexeme) (q : Qualified) (text : List ℕ)
    → expect_name (codes "std") from ≡ Some ((s, x), rest) → q ≡ qualified_name (s, x) → text ≡ x.text → standard_declaration expr stmt from ≡ standard_by expr stmt q text rest
unfolding standard_declaration standard_by
standard_parts expr stmt from rest s x q text e f g = rw (e, f, g) refl
