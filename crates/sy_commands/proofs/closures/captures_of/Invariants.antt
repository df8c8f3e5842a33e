use Rattle.std.proofs.Common.{◌≡◌, length, map}
use Rattle.sy_meaning.specs.Lambdas.{captured, captures_of}
use Rattle.sy_meaning.specs.Outcomes.{each_after}
use Rattle.sy_commands.specs.Closures.{lambda_of}
use Rattle.sy_commands.proofs.closures.captures_of.Given as goal

-- the rest, behind what was given so far, comes to what all come to
abbrev pub invariant-loop-rest : goal.invariant-loop-rest
invariant-loop-rest l = each_after (map (captured l.lambda.line) l.rest) l.objects l.run ≡ captures_of (lambda_of l.lambda) l.fn.run

abbrev pub decreases-loop-rest : goal.decreases-loop-rest
decreases-loop-rest l = length l.rest
