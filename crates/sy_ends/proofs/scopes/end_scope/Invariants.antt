use Rattle.std.proofs.Common.{◌≡◌, length}
use Rattle.sy_meaning.specs.Ends.{end_scope}
use Rattle.sy_meaning.specs.Frame.{living}
use Rattle.sy_ends.proofs.scopes.end_scope.Given as goal

-- the end of what is left is the end of all
abbrev pub invariant-loop-object : goal.invariant-loop-object
invariant-loop-object l = end_scope l.line l.world ≡ end_scope l.line l.fn.world

abbrev pub decreases-loop-object : goal.decreases-loop-object
decreases-loop-object l = length (living l.world)
