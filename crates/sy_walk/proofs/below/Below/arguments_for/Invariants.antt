use Rattle.std.proofs.Common.{◌≡◌, drop, map, []}
use Rattle.sy_looks.specs.Looked.{looked}
use Rattle.sy_rules.specs.Walk.{arguments, role_for}
use Rattle.sy_walk.proofs.ValueLemmas.{arguments_behind}
use Rattle.sy_walk.proofs.below.Below.arguments_for.Given as goal
use Rattle.sy_walk.specs.Trees.{argument}

abbrev pub invariant-loop-x : goal.invariant-loop-x
invariant-loop-x g l =
    looked (arguments_behind l.taken (role_for l.object l.variable l.member) l.seen l.trees (map argument (drop l.x-index l.xs))) l.w
    ≡ looked (arguments l.taken (role_for l.object l.variable l.member) [] (map argument l.xs)) l.fn.w
