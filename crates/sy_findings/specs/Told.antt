-- The first of the rules that were told so far.
use Rattle.std.specs.Prelude.{List, [], ◌∷◌, Option, Some}
use Rattle.sy_note.specs.declared.Diagnostic.{Diagnostic}
use Rattle.sy_rules.specs.Faults.{sooner}

-- after these were told too, one by one
abbrev pub told : Option Diagnostic → List Diagnostic → Option Diagnostic
told first [] = first
told first (d ∷ ds) = told (sooner first (Some d)) ds
