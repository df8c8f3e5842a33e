-- The place of what is found in a statement.
use Rattle.std.specs.Prelude.{Option, Some}
use Rattle.sy_found.specs.declared.parts.Place.{Place}
use Rattle.sy_looks.specs.declared.walk.Walk.{Walk}
use Rattle.sy_note.specs.declared.Spot.{Spot}
use Rattle.sy_rules.specs.declared.statements.Standing.{Standing}
use Rattle.sy_rules.specs.declared.statements.Standing.TheVariants as standing

-- in a statement that begins at s; what stands in the head of a `for` belongs to the `for`
abbrev pub place_within : Standing → Spot → Walk → Option Place
place_within standing.InHead s w = w.place
place_within _ s w = Some (record { within = w.names.setting.within; statement = s })
