use Rattle.std.proofs.Common.{◌≡◌, length}
use Rattle.sy_rules.specs.Names.{outside}
use Rattle.sy_names.proofs.declarations.Declarations.leave.Given as goal

abbrev pub invariant-loop-self : goal.invariant-loop-self
invariant-loop-self l = outside l.depth l.self ≡ outside l.depth l.initial.self

abbrev pub decreases-loop-self : goal.decreases-loop-self
decreases-loop-self l = length l.self
