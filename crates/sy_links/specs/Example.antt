-- A command that reads all of a buffer with no_init and writes a part of it, and a buffer of two sevens.
use Rattle.std.specs.Prelude.{pos, true, false, List, [], ◌∷◌}
use Rattle.sy_access.specs.declared.access.Need.{Need}
use Rattle.sy_access.specs.declared.access.Mode.TheVariants.{Read, Write}
use Rattle.sy_onecopy.specs.declared.Buffer.{Buffer}
use Rattle.sy_onecopy.specs.declared.Origin.TheVariants.{Vector}

abbrev pub odd_needs : List Need
odd_needs = record { buffer = 0; mode = Read; no_init = true; from = 0; to = 2 } ∷ record { buffer = 0; mode = Write; no_init = true; from = 0; to = 1 } ∷ []

abbrev pub sevens : List Buffer
sevens = record { values = pos 7 ∷ pos 7 ∷ []; origin = Vector; ended = false } ∷ []
