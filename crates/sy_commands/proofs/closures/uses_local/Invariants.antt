use Rattle.std.proofs.Common.{◌≡◌, length}
use Rattle.std.specs.List.{list_any}
use Rattle.sy_meaning.specs.Lambdas.{is_local_accessor, variable_of}
use Rattle.sy_typed.specs.declared.tree.TypedCapture.{TypedCapture}
use Rattle.sy_commands.proofs.closures.uses_local.Given as goal

-- what is looked for is in the rest
abbrev pub invariant-loop-rest : goal.invariant-loop-rest
invariant-loop-rest l = list_any (λ (c : TypedCapture). is_local_accessor (variable_of c).what) l.rest ≡ list_any (λ (c : TypedCapture). is_local_accessor (variable_of c).what) l.lambda.captures.now

abbrev pub decreases-loop-rest : goal.decreases-loop-rest
decreases-loop-rest l = length l.rest
