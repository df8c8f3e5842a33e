-- What the items of a file ask of the walk over a constant.
use Rattle.std.specs.Prelude.{Result}
use denote.Ref.{Bor, MutBor}
use Rattle.sy_looks.specs.Looked.{Looked}
use Rattle.sy_looks.specs.declared.walk.Walk.{Walk}
use Rattle.sy_rules.specs.Units.{constant_by}
use Rattle.sy_rules.specs.Walk.{declarator_of}
use Rattle.sy_tree.specs.declared.tree.Constant.{Constant}
use Rattle.sy_typed.specs.declared.tree.TypedConstant.{TypedConstant}

-- a function value that looks at constants
pub record LooksAtConstants {Stop : Type 0} (pre : MutBor Walk → Bor Constant → Type 0) (post : MutBor Walk → Bor Constant → Result TypedConstant Stop → MutBor Walk → Type 0) : Type 0 where
  pub callable : (old : MutBor Walk) (c : Bor Constant) → pre old c
  pub looks : (old new : MutBor Walk) (c : Bor Constant) (r : Result TypedConstant Stop) → post old c r new → Looked (constant_by c.now (declarator_of c.now.declarator)) old.now r new.now
