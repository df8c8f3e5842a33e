-- What a form asks of the walks over what stands in it.
use Rattle.std.specs.Prelude.{ℕ, Result}
use denote.Ref.{Bor, MutBor}
use Rattle.sy_looks.specs.Looked.{Looked}
use Rattle.sy_looks.specs.declared.walk.Walk.{Walk}
use Rattle.sy_rules.specs.declared.library.Role.{Role}
use Rattle.sy_rules.specs.declared.seen.Seen.{Seen}
use Rattle.sy_rules.specs.declared.seen.SeenLambda.{SeenLambda}
use Rattle.sy_rules.specs.Walk.{expr}
use Rattle.sy_tree.specs.declared.tree.Expr.{Expr}
use Rattle.sy_tree.specs.declared.tree.Lambda.{Lambda}
use Rattle.sy_typed.specs.declared.tree.Typed.{Typed}
use Rattle.sy_typed.specs.declared.tree.TypedLambda.{TypedLambda}
use Rattle.sy_walk.specs.Trees.{lambda}

-- function values that look at expressions and lambdas, to a depth
pub record LooksBelow {Stop : Type 0} (depth : ℕ)
    (expr_pre : MutBor Walk → ℕ → Bor Expr → Type 0) (expr_post : MutBor Walk → ℕ → Bor Expr → Result (Seen × Typed) Stop → MutBor Walk → Type 0)
    (lambda_pre : MutBor Walk → ℕ → Role → Bor Lambda → Type 0) (lambda_post : MutBor Walk → ℕ → Role → Bor Lambda → Result (SeenLambda × TypedLambda) Stop → MutBor Walk → Type 0) : Type 0 where
  pub expr_callable : (old : MutBor Walk) (e : Bor Expr) → expr_pre old depth e
  pub expr_looks : (old new : MutBor Walk) (e : Bor Expr) (r : Result (Seen × Typed) Stop) → expr_post old depth e r new → Looked (expr e.now) old.now r new.now
  pub lambda_callable : (old : MutBor Walk) (role : Role) (l : Bor Lambda) → lambda_pre old depth role l
  pub lambda_looks : (old new : MutBor Walk) (role : Role) (l : Bor Lambda) (r : Result (SeenLambda × TypedLambda) Stop) → lambda_post old depth role l r new → Looked (lambda l.now role) old.now r new.now
