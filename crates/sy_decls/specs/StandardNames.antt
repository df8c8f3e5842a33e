-- What a name of the library of C++ declares.
use Rattle.std.specs.Prelude.{ℕ, if◌then◌else◌, List, codes}
use Rattle.std.specs.Str.{bytes_eq}
use Rattle.sy_tree.specs.declared.parts.Qualified.{Qualified}
use Rattle.sy_tree.specs.declared.tree.Declaration.{Declaration}
use Rattle.sy_tree.specs.declared.tree.Expr.{Expr}
use Rattle.sy_tree.specs.declared.tree.Stmt.{Stmt}
use Rattle.sy_reading.specs.Input.{Reader, WithHeight, refuse}
use Rattle.sy_reading.specs.Stmts.{vector, thread}

-- what a name of the library of C++ declares
unfoldable pub standard_by : (ℕ → Reader (WithHeight Expr)) → Reader (WithHeight Stmt) → Qualified → List ℕ → Reader (WithHeight Declaration)
standard_by expr stmt q text = if bytes_eq text (codes "vector") then vector expr stmt q else (if bytes_eq text (codes "thread") then thread expr stmt q else refuse)
