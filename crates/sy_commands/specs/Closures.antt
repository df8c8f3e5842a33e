-- A lambda of which no more is read than its number, its line and its captures.
use Rattle.std.specs.Prelude.{[], ◌≡◌}
use Rattle.sy_commands.specs.declared.closures.Closure.{Closure}
use Rattle.sy_meaning.specs.Expressions.{Lambda}
use Rattle.sy_meaning.specs.declared.outcomes.Flow.TheVariants as flow

-- its parameters and its body may be any
abbrev pub lambda_of : Closure → Lambda
lambda_of c =
    record { number = c.number; spot = record { line = c.line; column = 0 }; captures = c.captures.now; parameters = []; body = record { run = λ r. (flow.Normal, r); last = 0 } }

-- the closure has what is read of the lambda
pub record IsClosureOf (l : Lambda) (c : Closure) : Type 0 where
  pub number : c.number ≡ l.number
  pub line : c.line ≡ l.spot.line
  pub captures : c.captures.now ≡ l.captures
