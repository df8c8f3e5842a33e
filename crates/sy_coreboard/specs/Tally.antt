-- The count of copies, entry by entry.
use Rattle.std.specs.Prelude.{ℕ, suc, ◌+◌, Bool, not, ◌&&◌, if◌then◌else◌, List, [], ◌∷◌, length}
use Rattle.sy_onecopy.specs.declared.Entry.{Entry}
use Rattle.sy_onecopy.specs.declared.Buffer.{Buffer}
use Rattle.sy_onecopy.specs.Copies.{uses, is_elsewhere, has_pair, made_from, version_from, pairs_from, first_made}

-- the version that these entries leave is counted at this place
abbrev pub is_counted : List Entry → ℕ → Buffer → ℕ → Bool
is_counted es r x place = has_pair (pairs_from r (length x.values) es 0 (first_made x.origin) []) (version_from r es 0, place)

-- the entry needs a copy of that version at its place
abbrev pub needs_copy : List Entry → ℕ → Buffer → Entry → Bool
needs_copy es r x e = uses e r (length x.values) && is_elsewhere (made_from r es (first_made x.origin)) e.place

-- which is one that is not counted yet
abbrev pub adds : List Entry → ℕ → Buffer → Entry → ℕ
adds es r x e = if needs_copy es r x e && not (is_counted es r x e.place) then 1 else 0

-- the same over all buffers from this one on
abbrev pub adds_from : List Entry → Entry → ℕ → List Buffer → ℕ
adds_from es e r [] = 0
adds_from es e r (x ∷ xs) = adds es r x e + adds_from es e (suc r) xs
