-- How many copies a run needs.
use Rattle.std.specs.Prelude.{ℕ, suc, ◌+◌, Bool, false, not, ◌&&◌, ◌==◌, if◌then◌else◌, List, [], ◌∷◌, length, Option, Some, None}
use Rattle.std.specs.List.{list_any}
use Rattle.sy_onecopy.specs.declared.Entry.{Entry}
use Rattle.sy_onecopy.specs.declared.Buffer.{Buffer}
use Rattle.sy_onecopy.specs.declared.Origin.{Origin}
use Rattle.sy_onecopy.specs.declared.Origin.TheVariants.{Vector, Range, Part}
use Rattle.sy_needs.specs.Versions.{renews, replaces}

-- the entry makes a new version of the buffer
unfoldable pub makes : Entry → ℕ → Bool
makes e r = renews e.needs r

abbrev pub names : Entry → ℕ → Bool
names e r = list_any (λ n. n.buffer == r) e.needs

-- the entry needs the current version of a buffer of so many elements
unfoldable pub uses : Entry → ℕ → ℕ → Bool
uses e r count = names e r && not (replaces e.needs r count)

-- a version was made at a place, or everywhere, and not at this place
abbrev pub is_elsewhere : Option ℕ → ℕ → Bool
is_elsewhere None place = false
is_elsewhere (Some made) place = not (made == place)

abbrev pub has_pair : List (ℕ × ℕ) → ℕ × ℕ → Bool
has_pair pairs x = list_any (λ y. y.0 == x.0 && y.1 == x.1) pairs

abbrev pub with_pair : List (ℕ × ℕ) → ℕ × ℕ → List (ℕ × ℕ)
with_pair pairs x = if has_pair pairs x then pairs else x ∷ pairs

-- where the entry's version of the buffer is made, if it makes one
abbrev pub made_after : Entry → ℕ → Option ℕ → Option ℕ
made_after e r made = if makes e r then Some e.place else made

abbrev pub version_after : Entry → ℕ → ℕ → ℕ
version_after e r version = if makes e r then suc version else version

abbrev pub pairs_after : Entry → ℕ → ℕ → ℕ → Option ℕ → List (ℕ × ℕ) → List (ℕ × ℕ)
pairs_after e r count version made pairs = if uses e r count && is_elsewhere made e.place then with_pair pairs (version, e.place) else pairs

-- the pairs of a version of buffer r and a place at which it is needed though it was made elsewhere, each once
abbrev pub pairs_from : ℕ → ℕ → List Entry → ℕ → Option ℕ → List (ℕ × ℕ) → List (ℕ × ℕ)
pairs_from r count [] version made pairs = pairs
pairs_from r count (e ∷ es) version made pairs =
    pairs_from r count es (version_after e r version) (made_after e r made) (pairs_after e r count version made pairs)

-- the version after these entries
abbrev pub version_from : ℕ → List Entry → ℕ → ℕ
version_from r [] version = version
version_from r (e ∷ es) version = version_from r es (version_after e r version)

-- where it is made
abbrev pub made_from : ℕ → List Entry → Option ℕ → Option ℕ
made_from r [] made = made
made_from r (e ∷ es) made = made_from r es (made_after e r made)

-- where the first version is made: of a buffer over a vector at the host, of one from a range everywhere
abbrev pub first_made : Origin → Option ℕ
first_made Vector = Some 0
first_made Range = None
first_made Part = None

abbrev pub copies_of : List Entry → ℕ → Buffer → ℕ
copies_of entries r x = length (pairs_from r (length x.values) entries 0 (first_made x.origin) [])

abbrev pub copies_from : List Entry → ℕ → List Buffer → ℕ
copies_from entries r [] = 0
copies_from entries r (x ∷ xs) = copies_of entries r x + copies_from entries (suc r) xs

-- over all buffers
unfoldable pub copies : List Entry → List Buffer → ℕ
copies entries buffers = copies_from entries 0 buffers
