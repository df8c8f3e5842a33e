use Rattle.std.proofs.Common.{◌≡◌, ◌∷◌, rules}
use Rattle.std.specs.Prelude.{IfOk, slice_get}
use Rattle.sy_meaning.specs.declared.runs.World.{World}
use Rattle.sy_meaning.specs.Library.{one_or_all}
use Rattle.sy_meaning.specs.Locations.{coordinate}
use Rattle.sy_meaning.specs.Words.{count_of}
use Rattle.sy_library.proofs.WorldLemmas.{always}
use Rattle.sy_library.proofs.items.one_or_all.Goals as goal

pub returns-in_ok-index-in-len1-up : goal.returns-in_ok-index-in-len1-up
returns-in_ok-index-in-len1-up c =
    always c.coordinate.result
    (coordinate c.args.line c.number_at.result)
    (one_or_all c.args.line c.args.ids.now c.args.given.now)
    c.coordinate.ensures
    (λ w. search rules)
