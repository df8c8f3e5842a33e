use Rattle.std.proofs.Common.{drop, map, ◌++◌, ◌≡◌}
use Rattle.sy_bodies.proofs.inner.Inner.printed_items.Given as goal
use Rattle.sy_declare.specs.Trees.{printed}
use Rattle.sy_looks.specs.Looked.{looked}
use Rattle.sy_rules.specs.Outcome.{in_turn, known_as}

abbrev pub invariant-loop-x : goal.invariant-loop-x
invariant-loop-x g l = looked (λ n. known_as (λ z. l.all ++ z) (in_turn (map printed (drop l.x-index l.xs)) n)) l.w ≡ looked (in_turn (map printed l.xs)) l.fn.w
