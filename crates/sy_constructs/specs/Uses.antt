-- What is found at a construct beside broken rules.
use Rattle.std.specs.Prelude.{ℕ, List, [], ◌∷◌, ◌++◌, Option, Some, None}
use Rattle.sy_constructs.specs.declared.uses.Foreign.{Foreign}
use Rattle.sy_rules.specs.declared.names.Named.{Named}
use Rattle.sy_rules.specs.declared.names.Within.{Within}
use Rattle.sy_rules.specs.declared.names.Within.TheVariants as within
use Rattle.sy_rules.specs.Outcome.{Finding, foreign_in, calls, uses}

abbrev pub foreign_found : Foreign → List Finding
foreign_found f = foreign_in f.to_kernels within.Kernel ++ foreign_in f.to_groups within.Group

abbrev pub used : Option Named → List Finding
used None = []
used (Some v) = uses v ∷ []

abbrev pub called : Within → Option ℕ → List Finding
called w None = []
called w (Some i) = calls w i ∷ []
