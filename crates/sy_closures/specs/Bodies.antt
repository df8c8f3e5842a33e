-- What a lambda or a function asks of the walk over its body, and what a lambda is looked at as before it is judged.
use Rattle.std.specs.Prelude.{ℕ, ◌+◌, List, Result}
use denote.Ref.{Bor, MutBor}
use Rattle.sy_looks.specs.Looked.{Looked}
use Rattle.sy_looks.specs.declared.walk.Walk.{Walk}
use Rattle.sy_rules.specs.declared.library.Role.{Role}
use Rattle.sy_rules.specs.Lambdas.{thread_scope}
use Rattle.sy_rules.specs.Outcome.{Look}
use Rattle.sy_rules.specs.Walk.{Bl, block, lambda_parts, out_of_threads}
use Rattle.sy_tree.specs.declared.parts.Capture.{Capture}
use Rattle.sy_tree.specs.declared.parts.LambdaParameter.{LambdaParameter}
use Rattle.sy_tree.specs.declared.tree.Block.{Block}
use Rattle.sy_typed.specs.declared.tree.TypedBlock.{TypedBlock}
use Rattle.sy_typed.specs.declared.tree.TypedCapture.{TypedCapture}
use Rattle.sy_typed.specs.declared.tree.Variable.{Variable}

-- a function value that looks at blocks, to a depth
pub record BlocksBelow {Stop : Type 0} (depth : ℕ)
    (block_pre : MutBor Walk → ℕ → Bor Block → Type 0) (block_post : MutBor Walk → ℕ → Bor Block → Result TypedBlock Stop → MutBor Walk → Type 0) : Type 0 where
  pub callable : (old : MutBor Walk) (b : Bor Block) → block_pre old depth b
  pub looks : (old new : MutBor Walk) (b : Bor Block) (r : Result TypedBlock Stop) → block_post old depth b r new → Looked (block b.now) old.now r new.now

-- the parts of a lambda, which takes the next number of a body
abbrev pub parts_of_lambda : Role → List Capture → List LambdaParameter → Bl → Look (List TypedCapture × (List Variable × TypedBlock))
parts_of_lambda r cs ps b n =
    out_of_threads n (lambda_parts r (thread_scope n r cs) cs ps b n (record n { next_body = n.next_body + 1 }))
