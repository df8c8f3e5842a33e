use Rattle.std.proofs.Common.{drop, map, ◌++◌, ◌≡◌}
use Rattle.sy_bodies.proofs.blocks.in_list.Given as goal
use Rattle.sy_looks.specs.Looked.{looked}
use Rattle.sy_rules.specs.Outcome.{in_turn, known_as}
use Rattle.sy_rules.specs.Walk.{stmt}
use Rattle.sy_rules.specs.declared.statements.Standing.TheVariants as standing

abbrev pub invariant-loop-s : goal.invariant-loop-s
invariant-loop-s g l = looked (λ n. known_as (λ z. l.all ++ z) (in_turn (map (λ s. stmt s standing.InList) (drop l.s-index l.ss)) n)) l.w ≡ looked (in_turn (map (λ s. stmt s standing.InList) l.ss)) l.fn.w
