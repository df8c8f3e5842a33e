-- What is kept of the items of a file.
use Rattle.std.specs.Prelude.{◌≡◌, List, [], ◌∷◌, ◌++◌, Option, None}
use Rattle.sy_findings.specs.Told.{told}
use Rattle.sy_found.specs.Noted.{Notes, nothing_noted}
use Rattle.sy_items.specs.declared.file.File.{File}
use Rattle.sy_looks.specs.declared.walk.Walk.{Walk}
use Rattle.sy_note.specs.declared.Diagnostic.{Diagnostic}
use Rattle.sy_rules.specs.Outcome.{Finding, Outcome, all_broken}
use Rattle.sy_rules.specs.Units.{Piece, constants_of, functions_of}
use Rattle.sy_typed.specs.declared.tree.TypedConstant.{TypedConstant}
use Rattle.sy_typed.specs.declared.tree.TypedFunction.{TypedFunction}
use Rattle.sy_units.specs.Calls.{notes_of}

-- the typed constants and functions, what was found in each function, and the broken rule that is told first
pub record Kept : Type 0 where
  pub constants : List TypedConstant
  pub functions : List TypedFunction
  pub notes : List Notes
  pub first : Option Diagnostic

abbrev pub kept_of : File → Kept
kept_of f = record { constants = f.constants; functions = f.functions; notes = f.found.items; first = f.first }

-- one item more, in which these were found
abbrev pub with_piece : Piece → List Finding → Kept → Kept
with_piece p xs k = record {
  constants = k.constants ++ constants_of (p ∷ []);
  functions = k.functions ++ functions_of (p ∷ []);
  notes = k.notes ++ notes_of (p ∷ []);
  first = told k.first (all_broken xs);
}

-- the items of an outcome more
abbrev pub with_pieces : Outcome (List Piece) → Kept → Kept
with_pieces o k = record {
  constants = k.constants ++ constants_of o.what;
  functions = k.functions ++ functions_of o.what;
  notes = k.notes ++ notes_of o.what;
  first = told k.first (all_broken o.found);
}

-- nothing is found yet, outside of any statement
pub record HasBegun (w : Walk) : Type 0 where
  pub found : w.found ≡ nothing_noted
  pub place : w.place ≡ None
