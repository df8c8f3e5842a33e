-- The reader of a property where each of its parts is read. The text is long, and so no search is left to go through it.
use Rattle.std.specs.Prelude.{◌≡◌, refl, ℕ, List, Some, codes}
use Rattle.sy_lex.specs.declared.Row.TheVariants as row
use Rattle.sy_lex.specs.declared.Token.{Token}
use Rattle.sy_note.specs.declared.Spot.{Spot}
use Rattle.sy_tree.specs.declared.parts.Brackets.{Brackets}
use Rattle.sy_tree.specs.declared.parts.Qualified.{Qualified}
use Rattle.sy_tree.specs.declared.tree.Expr.{Expr}
use Rattle.sy_tree.specs.declared.tree.Expr.TheVariants as tree
use Rattle.sy_tree.specs.declared.tree.Stmt.{Stmt}
use Rattle.sy_reading.specs.Input.{Reader, WithHeight, check_height, expect}
use Rattle.sy_reading.specs.Parts.{empty_brackets}
use Rattle.sy_reading.specs.Exprs.{initialize_to_identity}

pub identity_parts : (expr : ℕ → Reader (WithHeight Expr)) (stmt : Reader (WithHeight Stmt)) (q : Qualified) (from k m n rest : List Token)
    (r s t : Spot) (b : Brackets × Spot)
    → expect row.Ident (codes "reduction") from ≡ Some (r, k)
    → expect row.Mark (codes "::") k ≡ Some (s, m)
    → expect row.Ident (codes "initialize_to_identity") m ≡ Some (t, n)
    → empty_brackets n ≡ Some (b, rest)
    → initialize_to_identity expr stmt q from ≡ check_height (tree.InitializeToIdentity q b.0 b.1) 0 rest
unfolding initialize_to_identity
identity_parts expr stmt q from k m n rest r s t b e f g h = rw (e, f, g, h) refl
