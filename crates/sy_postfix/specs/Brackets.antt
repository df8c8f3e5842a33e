-- Parts of postfix expressions.
use Rattle.std.specs.Prelude.{ℕ, max, List, Option, codes}
use Rattle.sy_lex.specs.declared.Row.TheVariants as row
use Rattle.sy_note.specs.declared.Spot.{Spot}
use Rattle.sy_tree.specs.declared.parts.Lexeme.{Lexeme}
use Rattle.sy_tree.specs.declared.parts.TemplateArgument.{TemplateArgument}
use Rattle.sy_tree.specs.declared.tree.Argument.{Argument}
use Rattle.sy_tree.specs.declared.tree.Expr.{Expr}
use Rattle.sy_tree.specs.declared.tree.Expr.TheVariants as tree
use Rattle.sy_tree.specs.declared.tree.Stmt.{Stmt}
use Rattle.sy_reading.specs.Exprs.{arguments}
use Rattle.sy_reading.specs.Input.{Reader, WithHeight, ◌>>=◌, ◌>>◌, pure, check_height, expect, expect_row}
use Rattle.sy_reading.specs.Parts.{maybe_template_argument}

-- "[" expr "]", with the places of the brackets
unfoldable pub subscript_index : (ℕ → Reader (WithHeight Expr)) → Reader (WithHeight Expr × (Spot × Spot))
subscript_index expr = do
  s ← expect row.Mark (codes "[")
  x ← expr 1
  e ← expect row.Mark (codes "]")
  pure (x, (s, e))

-- the name of a member, with the template argument of one that takes one
unfoldable pub member_name : Reader (Lexeme × Option TemplateArgument)
member_name = do
  x ← expect_row row.Ident
  t ← maybe_template_argument x.text
  pure (x, t)

-- "(" list(arg)? ")", with the place of the bracket at its end
unfoldable pub call_arguments : (ℕ → Reader (WithHeight Expr)) → Reader (WithHeight Stmt) → Reader (WithHeight (List Argument) × Spot)
call_arguments expr stmt = do
  expect row.Mark (codes "(")
  xs ← arguments expr stmt (codes ")")
  e ← expect row.Mark (codes ")")
  pure (xs, e)

-- the call of a member whose name has been read
unfoldable pub member_call : (ℕ → Reader (WithHeight Expr)) → Reader (WithHeight Stmt) → WithHeight Expr → Lexeme × Option TemplateArgument → Reader (WithHeight Expr)
member_call expr stmt a m = do
  expect row.Mark (codes "(")
  xs ← arguments expr stmt (codes ")")
  e ← expect row.Mark (codes ")")
  check_height (tree.MemberCall a.0 m.0 m.1 xs.0 e) (max a.1 xs.1)
