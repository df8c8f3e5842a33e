-- What the laws on the order of items and groups speak of.
use Rattle.std.specs.List.{list_any}
use Rattle.std.specs.Prelude.{Bool, List, None, Option, [], suc, zero, ℕ, ℤ, ◌∷◌, ◌≡◌, ◌≢◌}
use Rattle.sy_access.specs.Logs.{logged}
use Rattle.sy_access.specs.declared.cells.Cell.{Cell}
use Rattle.sy_work.specs.declared.commands.Outcome.{Outcome}
use Rattle.sy_work.specs.declared.commands.Outcome.TheVariants as outcomes
use Rattle.sy_work.specs.declared.endings.Fault.{Fault}
use Rattle.sy_meaning.specs.declared.runs.Step.{Step}
use Rattle.sy_meaning.specs.declared.runs.Store.{Store}
use Rattle.sy_meaning.specs.Items.{Came, Footprint, clashes, divergence, failed}

-- the list with the neighbours at this index exchanged
abbrev pub exchanged : {A : Type 0} → ℕ → List A → List A
exchanged k [] = []
exchanged k (x ∷ []) = x ∷ []
exchanged zero (x ∷ y ∷ xs) = y ∷ x ∷ xs
exchanged (suc k) (x ∷ y ∷ xs) = x ∷ exchanged k (y ∷ xs)

-- and so on for each of the indexes. Every order of a list is reached so
abbrev pub reordered : {A : Type 0} → List ℕ → List A → List A
reordered [] xs = xs
reordered (k ∷ ks) xs = reordered ks (exchanged k xs)

-- the least item that stands elsewhere than the first
abbrev pub diverges : List Footprint → Option Fault
diverges [] = None
diverges (f ∷ fs) = divergence f.stop fs

-- two stores have the same number for each cell
abbrev pub SameStore : Store → Store → Type 0
SameStore s t = (c : Cell) → logged s.cells c ≡ logged t.cells c

-- a step of the one list clashes with a step of the other
abbrev pub meets : List Step → List Step → Bool
meets ss ts = list_any (λ s. list_any (clashes s) ts) ss

abbrev pub Fails : Came → Type 0
Fails c = (f : Fault) × (c ≡ failed f)

abbrev pub Holds : Came → Type 0
Holds c = (f : Fault) → c ≢ failed f

-- two logs have the same number for each cell
abbrev pub SameLog : List (Cell × ℤ) → List (Cell × ℤ) → Type 0
SameLog a b = (c : Cell) → logged a c ≡ logged b c

abbrev pub KernelFails : Outcome → Type 0
KernelFails o = (f : Fault) × (o ≡ outcomes.Failed f)
