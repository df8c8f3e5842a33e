-- Findings that have their places.
use Rattle.std.specs.Prelude.{◌≡◌, List, Option, flat_map}
use Rattle.sy_found.specs.Noted.{placed_by}
use Rattle.sy_found.specs.declared.parts.Place.{Place}
use Rattle.sy_rules.specs.Outcome.{Finding}

-- no statement round them changes them
abbrev pub HavePlaces : List Finding → Type 0
HavePlaces xs = (p : Option Place) → flat_map (placed_by p) xs ≡ xs
