-- How a rule of the grammar is used for a part that may be missing, or for several.
use Rattle.std.specs.Prelude.{◌≡◌, Bool, true, false, List, [], ◌∷◌, Option, Some, None}
use Rattle.sy_lex.specs.declared.Token.{Token}
use Rattle.sy_lex.specs.declared.Word.{Word}
use Rattle.sy_tree.specs.Words.{Sees, mark}

-- which part of a tree stands between the tokens `from` and the tokens `rest` that follow it
abbrev pub Rule : Type 0 → Type 1
Rule A = A → List Token → List Token → Type 0

-- the word, if it is there
abbrev pub Maybe : Word → Rule Bool
Maybe w true from rest = Sees w from rest
Maybe w false from rest = from ≡ rest

module _ {A : Type 0} (P : Rule A) where
  -- X?
  abbrev pub Optional : Rule (Option A)
  Optional None from rest = from ≡ rest
  Optional (Some x) from rest = P x from rest

  -- X*
  abbrev pub Each : Rule (List A)
  Each [] from rest = from ≡ rest
  Each (x ∷ more) from rest = (m : List Token) × P x from m × Each more m rest

  -- X and more of them
  abbrev pub OneOrMore : Rule (List A)
  OneOrMore [] from rest = ⊥
  OneOrMore (x ∷ more) from rest = Each (x ∷ more) from rest

  -- list(X): one or more, separated by commas
  abbrev pub Listed : Rule (List A)
  Listed [] from rest = ⊥
  Listed (x ∷ []) from rest = P x from rest
  Listed (x ∷ y ∷ more) from rest = (m k : List Token) × P x from m × Sees (mark ",") m k × Listed (y ∷ more) k rest

  -- list(X)?
  abbrev pub MaybeListed : Rule (List A)
  MaybeListed [] from rest = from ≡ rest
  MaybeListed (x ∷ more) from rest = Listed (x ∷ more) from rest
