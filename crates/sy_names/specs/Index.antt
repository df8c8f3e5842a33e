-- What the table of newest numbers says of the declarations in force, a list with the newest first.
use Rattle.std.specs.Prelude.{◌≡◌, ℕ, Bool, false, if◌then◌else◌, List, [], ◌∷◌, length, nat_le, Option, Some, None}
use Rattle.std.specs.Option.{option_flatten}
use Rattle.std.specs.Str.{bytes_eq}
use Rattle.indexmap.specs.IndexMap.{get_by}
use Rattle.sy_rules.specs.declared.names.Entry.{Entry}
use Rattle.sy_names.specs.declared.declarations.Declaration.{Declaration}
use Rattle.sy_names.specs.declared.newest.Newest.{Newest}

-- the number that the table has for a name
abbrev pub number_in : Newest → List ℕ → Option ℕ
number_in t x = option_flatten (get_by (λ k. bytes_eq x k.items) t.numbers)

-- the number of the newest declaration of a name: how many are older
abbrev pub newest_of : List Declaration → List ℕ → Option ℕ
newest_of [] x = None
newest_of (d ∷ ds) x = if bytes_eq d.name.items x then Some (length ds) else newest_of ds x

-- each declaration has the number of the one that it hides
abbrev pub HideOlder : List Declaration → Type 0
HideOlder [] = Unit {0}
HideOlder (d ∷ ds) = (d.hides ≡ newest_of ds d.name.items) × HideOlder ds

pub record IsIndexed (t : Newest) (ds : List Declaration) : Type 0 where
  pub newest : (x : List ℕ) → number_in t x ≡ newest_of ds x
  pub older : HideOlder ds

abbrev pub entry_of : Declaration → Entry
entry_of d = record { name = d.name.items; named = d.named }

-- the newest entry is in a scope with so many round it
abbrev pub is_within : ℕ → List Entry → Bool
is_within n [] = false
is_within n (e ∷ es) = nat_le n e.named.depth
