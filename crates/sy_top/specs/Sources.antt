-- Which sources are accepted, and why the others are refused.
use Rattle.std.specs.Prelude.{◌≡◌, ℕ, List, [], Some, None}
use Rattle.sy_lex.specs.declared.Token.{Token}
use Rattle.sy_lex.specs.Tokens.{HasTokens, HasNoTokens, IsStuck}
use Rattle.sy_note.specs.declared.Code.{Code}
use Rattle.sy_note.specs.declared.Code.TheVariants as code
use Rattle.sy_note.specs.declared.Diagnostic.{Diagnostic}
use Rattle.sy_note.specs.declared.Spot.{Spot}
use Rattle.sy_rules.specs.Faults.{first_broken}
use Rattle.sy_rules.specs.Units.{broken_rules}
use Rattle.sy_sums.specs.Form.{first_unbuilt}
use Rattle.sy_sums.specs.Sums.{sums_program}
use Rattle.sy_tree.specs.declared.tree.Unit.{Unit as SourceUnit}
use Rattle.sy_tree.specs.Units.{IsUnit}
use Rattle.sy_work.specs.Programs.{Program}

-- The bytes are a source, and that is its tree: tokens read the bytes, and the tree is the grammar's for these tokens.
pub record IsSource (bytes : List ℕ) (unit : SourceUnit) : Type 0 where
  pub tokens : List Token
  pub lexed : HasTokens bytes tokens
  pub parsed : IsUnit tokens unit

-- the source is accepted: it breaks no rule of typing
pub record IsAcceptedSource (bytes : List ℕ) (unit : SourceUnit) : Type 0 where
  pub source : IsSource bytes unit
  pub unbroken : broken_rules unit ≡ []

-- The source is accepted, and all its forms are built. With so many turns for each thread it is this program.
pub record Accepted (bytes : List ℕ) (turns : ℕ) (p : Program) : Type 0 where
  pub unit : SourceUnit
  pub accepted : IsAcceptedSource bytes unit
  pub built : first_unbuilt unit ≡ None
  pub means : p ≡ sums_program turns unit

-- What each rule finds broken, and where. The rules are asked in this order, and each speaks of what those before it let
-- through; the grammar's place is free.
abbrev pub Breaks : List ℕ → Code → Spot → Type 0
-- no tokens read the bytes, and none begins there
Breaks bytes code.Lexical s = IsStuck bytes s × HasNoTokens bytes
-- tokens read them, and the grammar has no tree for these
Breaks bytes code.Grammar s = (tokens : List Token) × HasTokens bytes tokens × ((unit : SourceUnit) → IsUnit tokens unit → ⊥)
-- the tree breaks no rule of typing, and its first form that is not built begins there
Breaks bytes code.NotBuilt s = (unit : SourceUnit) × IsAcceptedSource bytes unit × (first_unbuilt unit ≡ Some s)
-- that is the first rule of typing that the tree breaks
Breaks bytes other s = (unit : SourceUnit) × IsSource bytes unit × (first_broken (broken_rules unit) ≡ Some (record { spot = s; code = other }))

-- the bytes are no source, and why
abbrev pub IsNoSource : List ℕ → Diagnostic → Type 0
IsNoSource bytes d = Breaks bytes d.code d.spot × ((unit : SourceUnit) → IsSource bytes unit → ⊥)

-- the bytes are no accepted source, and why
abbrev pub IsNotAccepted : List ℕ → Diagnostic → Type 0
IsNotAccepted bytes d = Breaks bytes d.code d.spot × ((unit : SourceUnit) → IsAcceptedSource bytes unit → ⊥)
