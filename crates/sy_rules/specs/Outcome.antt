-- What a look at a part of the tree finds.
use Rattle.std.specs.Prelude.{ℕ, Bool, true, false, List, [], ◌∷◌, ◌++◌, map, flat_map}
use Rattle.sy_note.specs.declared.Code.TheVariants as code
use Rattle.sy_note.specs.declared.Diagnostic.{Diagnostic}
use Rattle.sy_note.specs.declared.Spot.{Spot}
use Rattle.sy_rules.specs.declared.names.Named.{Named}
use Rattle.sy_rules.specs.declared.names.Names.{Names}
use Rattle.sy_rules.specs.declared.names.Within.{Within}
use Rattle.sy_rules.specs.declared.names.Within.TheVariants as within

-- `broken` is a broken rule. `foreign w` is a use that w doesn't allow, in the statement that is being looked at, and
-- `held w s` a statement at s of a function that w doesn't allow: it breaks a rule only if w calls the function.
-- `calls w f` is a call of the function f within w, and `uses v` a use of the declaration v.
pub data Finding : Type 0 where
  broken : Diagnostic → Finding
  foreign : Within → Finding
  held : Within → Spot → Finding
  calls : Within → ℕ → Finding
  uses : Named → Finding

-- what is known of a part, what is found in it, and the names after it
pub record Outcome (T : Type 0) : Type 0 where
  pub what : T
  pub found : List Finding
  pub names : Names

abbrev pub Look : Type 0 → Type 0
Look T = Names → Outcome T

abbrev pub outcome : {T : Type 0} → T → List Finding → Names → Outcome T
outcome x found n = record { what = x; found = found; names = n }

-- nothing is found
abbrev pub plainly : {T : Type 0} → T → Look T
plainly x n = outcome x [] n

abbrev pub after : {T : Type 0} → List Finding → Outcome T → Outcome T
after found o = outcome o.what (found ++ o.found) o.names

-- one part after another: the second may look at what is known of the first
abbrev pub and_then : {S T : Type 0} → Outcome S → (S → Look T) → Outcome T
and_then o f = after o.found (f o.what o.names)

-- the same is found, and something else is known
abbrev pub known_as : {S T : Type 0} → (S → T) → Outcome S → Outcome T
known_as f o = outcome (f o.what) o.found o.names

-- all of a list from left to right
abbrev pub in_turn : {T : Type 0} → List (Look T) → Look (List T)
in_turn [] n = plainly [] n
in_turn (a ∷ more) n = and_then (a n) (λ x m. known_as (λ xs. x ∷ xs) (in_turn more m))

abbrev pub faults_found : List Diagnostic → List Finding
faults_found ds = map broken ds

abbrev pub foreign_in : Bool → Within → List Finding
foreign_in true w = foreign w ∷ []
foreign_in false w = []

-- ---- statements

-- w's statement at s has a use that u doesn't allow
abbrev pub placed_in : Within → Spot → Within → List Finding
placed_in within.Host s u = held u s ∷ []
placed_in within.Group s within.Group = broken (record { spot = s; code = code.NotInGroup }) ∷ []
placed_in within.Kernel s within.Kernel = broken (record { spot = s; code = code.NotInKernel }) ∷ []
placed_in _ s u = []

abbrev pub placed : Within → Spot → Finding → List Finding
placed w s (foreign u) = placed_in w s u
placed w s x = x ∷ []

-- what is found in a statement of w that begins at s
abbrev pub at_statement : {T : Type 0} → Within → Spot → Outcome T → Outcome T
at_statement w s o = outcome o.what (flat_map (placed w s) o.found) o.names

-- ---- what else is asked of a list of findings

abbrev pub broken_of : Finding → List Diagnostic
broken_of (broken d) = d ∷ []
broken_of _ = []

abbrev pub used_of : Finding → List Named
used_of (uses v) = v ∷ []
used_of _ = []

abbrev pub all_broken : List Finding → List Diagnostic
all_broken = flat_map broken_of

abbrev pub all_used : List Finding → List Named
all_used = flat_map used_of
