-- What was found so far, as far as it is asked for later.
use Rattle.std.specs.Prelude.{List, [], ◌∷◌, ◌++◌, Option, Some, None, flat_map}
use Rattle.sy_note.specs.declared.Code.TheVariants as code
use Rattle.sy_note.specs.declared.Diagnostic.{Diagnostic}
use Rattle.sy_note.specs.declared.Spot.{Spot}
use Rattle.sy_found.specs.declared.parts.Call.{Call}
use Rattle.sy_found.specs.declared.parts.Place.{Place}
use Rattle.sy_rules.specs.declared.names.Named.{Named}
use Rattle.sy_rules.specs.declared.names.Within.{Within}
use Rattle.sy_rules.specs.declared.names.Within.TheVariants as within
use Rattle.sy_rules.specs.Faults.{sooner}
use Rattle.sy_rules.specs.Outcome.{Finding, broken, foreign, held, calls, uses, placed}

-- the broken rule that is told first, and the one that is broken first if a kernel, or a group, calls the function;
-- what is called; and what is used
pub record Notes : Type 0 where
  pub first : Option Diagnostic
  pub for_kernels : Option Diagnostic
  pub for_groups : Option Diagnostic
  pub calls : List Call
  pub used : List Named

abbrev pub nothing_noted : Notes
nothing_noted = record { first = None; for_kernels = None; for_groups = None; calls = []; used = [] }

abbrev pub held_for : Within → Spot → Notes → Notes
held_for within.Host s t = t
held_for within.Kernel s t = record t { for_kernels = sooner t.for_kernels (Some (record { spot = s; code = code.NotInKernel })) }
held_for within.Group s t = record t { for_groups = sooner t.for_groups (Some (record { spot = s; code = code.NotInGroup })) }

-- a use that stands in no statement is asked for no more
abbrev pub note : Notes → Finding → Notes
note t (broken d) = record t { first = sooner t.first (Some d) }
note t (foreign u) = t
note t (held u s) = held_for u s t
note t (calls w i) = record t { calls = t.calls ++ (record { from = w; to = i }) ∷ [] }
note t (uses v) = record t { used = t.used ++ v ∷ [] }

abbrev pub noted : Notes → List Finding → Notes
noted t [] = t
noted t (x ∷ xs) = noted (note t x) xs

abbrev pub placed_by : Option Place → Finding → List Finding
placed_by None x = x ∷ []
placed_by (Some p) x = placed p.within p.statement x

-- after these were found too, in the statement of this place
abbrev pub found_in : Option Place → Notes → List Finding → Notes
found_in p t xs = noted t (flat_map (placed_by p) xs)
