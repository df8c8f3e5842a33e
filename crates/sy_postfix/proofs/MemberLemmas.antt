-- The call of a member is a dot, the name of the member, and then its call.
use Rattle.std.specs.Prelude.{◌≡◌, refl, ℕ, List, Option, Some, None, codes}
use Rattle.sy_lex.specs.declared.Row.TheVariants as row
use Rattle.sy_lex.specs.declared.Token.{Token}
use Rattle.sy_note.specs.declared.Spot.{Spot}
use Rattle.sy_tree.specs.declared.parts.Lexeme.{Lexeme}
use Rattle.sy_tree.specs.declared.parts.TemplateArgument.{TemplateArgument}
use Rattle.sy_tree.specs.declared.tree.Expr.{Expr}
use Rattle.sy_tree.specs.declared.tree.Stmt.{Stmt}
use Rattle.sy_reading.specs.Input.{Reader, WithHeight, ◌>>=◌, and_then, pure, expect, expect_row}
use Rattle.sy_reading.specs.Parts.{maybe_template_argument}
use Rattle.sy_reading.specs.Exprs.{member}
use Rattle.sy_postfix.specs.Brackets.{member_name, member_call}

with_template : (expr : ℕ → Reader (WithHeight Expr)) (stmt : Reader (WithHeight Stmt)) (a : WithHeight Expr) (x : Lexeme) (o : Option (Option TemplateArgument × List Token))
    → and_then o (λ t. member_call expr stmt a (x, t)) ≡ and_then (and_then o (λ t. pure (x, t))) (member_call expr stmt a)
with_template expr stmt a x None = refl
with_template expr stmt a x (Some p) = refl

with_name : (expr : ℕ → Reader (WithHeight Expr)) (stmt : Reader (WithHeight Stmt)) (a : WithHeight Expr) (o : Option (Lexeme × List Token))
    → and_then o (λ x. maybe_template_argument x.text >>= (λ t. member_call expr stmt a (x, t)))
    ≡ and_then (and_then o (λ x. maybe_template_argument x.text >>= (λ t. pure (x, t)))) (member_call expr stmt a)
with_name expr stmt a None = refl
with_name expr stmt a (Some p) = with_template expr stmt a p.0 (maybe_template_argument p.0.text p.1)

pub member_parts : (expr : ℕ → Reader (WithHeight Expr)) (stmt : Reader (WithHeight Stmt)) (a : WithHeight Expr) (ts us : List Token) (s : Spot)
    → expect row.Mark (codes ".") ts ≡ Some (s, us) → member expr stmt a ts ≡ and_then (member_name us) (member_call expr stmt a)
unfolding member member_name member_call
member_parts expr stmt a ts us s dot = rw dot (with_name expr stmt a (expect_row row.Ident us))
