-- What the laws of the machine speak of.
use Rattle.std.specs.Prelude.{◌≡◌, ℕ, true, false, List, Some, slice_get}
use Rattle.sy_access.specs.declared.access.Need.{Need}
use Rattle.sy_onecopy.specs.declared.Entry.{Entry}
use Rattle.sy_onecopy.specs.State.{Board}
use Rattle.sy_onecopy.specs.Before.{is_free}
use Rattle.sy_needs.specs.Elements.{is_written}

-- no entry could take effect
abbrev pub IsSettled : Board → Type 0
IsSettled b = (k : ℕ) (e : Entry) → slice_get b.entries k ≡ Some e → is_free b.entries k e ≡ false

-- no element is written by both
abbrev pub WriteApart : List Need → List Need → Type 0
WriteApart xs ys = (b i : ℕ) → is_written xs b i ≡ true → is_written ys b i ≡ false
