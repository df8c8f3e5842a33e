-- What names designate.
use Rattle.std.specs.Prelude.{ℕ}
use Rattle.sy_meaning.specs.declared.runs.Location.{Location}
use Rattle.sy_meaning.specs.declared.runs.Location.TheVariants as location
use Rattle.sy_typed.specs.declared.things.Thing.{Thing}
use Rattle.sy_typed.specs.declared.things.Thing.TheVariants as thing

-- a name that a range-for declares by reference, an element where it is an integer's
abbrev pub reference_location : Thing → ℕ → Location
reference_location (thing.Integer k) n = location.Element
reference_location t n = location.Local n
