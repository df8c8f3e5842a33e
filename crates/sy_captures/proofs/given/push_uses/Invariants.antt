use Rattle.std.proofs.Common.{◌≡◌, ◌++◌, drop, map}
use Rattle.sy_captures.specs.Taken.{taken_by}
use Rattle.sy_rules.specs.Lambdas.{each_once, outer_uses}
use Rattle.sy_captures.proofs.given.push_uses.Given as goal

abbrev pub invariant-loop-v : goal.invariant-loop-v
invariant-loop-v l =
    l.captures.items ++ map (taken_by l.by_reference) (each_once l.seen.keys (outer_uses l.start (drop l.v-index l.used)))
    ≡ l.fn.captures.items ++ map (taken_by l.by_reference) (each_once l.fn.seen.keys (outer_uses l.start l.used))
