use Rattle.std.proofs.Common.{◌≡◌, drop, map}
use Rattle.sy_looks.specs.Looked.{looked}
use Rattle.sy_rules.specs.Walk.{expr}
use Rattle.sy_walk.proofs.ValueLemmas.{values_behind}
use Rattle.sy_walk.proofs.below.Below.values.Given as goal
use Rattle.sy_walk.specs.Values.{values}

abbrev pub invariant-loop-x : goal.invariant-loop-x
invariant-loop-x g l = looked (values_behind l.seen l.trees (map expr (drop l.x-index l.xs))) l.w ≡ looked (values (map expr l.xs)) l.fn.w
