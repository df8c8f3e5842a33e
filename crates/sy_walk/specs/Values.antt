-- Values that are looked at from left to right, in two lists: what is seen of them, and their typed trees.
use Rattle.std.specs.Prelude.{List, map}
use Rattle.sy_rules.specs.declared.seen.Seen.{Seen}
use Rattle.sy_rules.specs.Outcome.{Look, known_as}
use Rattle.sy_rules.specs.Walk.{Ex, parts, seen_of, typed_of}
use Rattle.sy_typed.specs.declared.tree.Typed.{Typed}

abbrev pub values : List Ex → Look (List Seen × List Typed)
values xs n = known_as (λ ps. (map seen_of ps, map typed_of ps)) (parts xs n)
