-- The first of several broken rules.
use Rattle.std.specs.Prelude.{◌≡◌, ◌≤◌, ◌⊎◌, List, [], ◌∷◌}
use Rattle.sy_note.specs.declared.Diagnostic.{Diagnostic}
use Rattle.sy_rules.specs.Faults.{table_place, rank}

abbrev pub Among : List Diagnostic → Diagnostic → Type 0
Among [] d = ⊥
Among (e ∷ es) d = (d ≡ e) ⊎ Among es d

-- it is one of them, and none is told sooner
pub record IsFirst (ds : List Diagnostic) (d : Diagnostic) : Type 0 where
  pub among : Among ds d
  pub least : (e : Diagnostic) → Among ds e → rank d ≤ rank e

-- d stands before e in the source, or at the same place and not behind it in the table
pub record NotBehind (d e : Diagnostic) : Type 0 where
  pub line : d.spot.line ≤ e.spot.line
  pub column : d.spot.line ≡ e.spot.line → d.spot.column ≤ e.spot.column
  pub row : d.spot.line ≡ e.spot.line → d.spot.column ≡ e.spot.column → table_place d.code ≤ table_place e.code
