-- Which of two entries comes before the other.
use Rattle.std.specs.Prelude.{ℕ, Bool, false, ◌||◌, ◌==◌, List, Option, Some, None}
use Rattle.std.specs.List.{list_any}
use Rattle.sy_access.specs.declared.access.Need.{Need}
use Rattle.sy_access.specs.Needs.{conflict, is_apart}

-- two needs, of entries at these places, conflict or are apart
abbrev pub meets_one : Need → ℕ → ℕ → Need → Bool
meets_one a p q b = conflict a b || is_apart a p b q

-- the need a, of an entry at place p, and one of these needs, of an entry at place q, conflict or are apart
abbrev pub meets : Need → ℕ → List Need → ℕ → Bool
meets a p ys q = list_any (meets_one a p q) ys

-- a need of the one, in an entry at place p, and a need of the other, at place q, conflict or are apart
abbrev pub needs_meet : List Need → ℕ → List Need → ℕ → Bool
needs_meet xs p ys q = list_any (λ a. meets a p ys q) xs

-- both are nodes of one in-order queue
abbrev pub both_on : Option ℕ → Option ℕ → Bool
both_on (Some p) (Some q) = p == q
both_on (Some p) None = false
both_on None q = false

-- an entry is before a later one if needs of theirs meet, if the later one names it, or if both are nodes of one in-order queue
abbrev pub is_before : Bool → Bool → Option ℕ → Option ℕ → Bool
is_before met named p q = met || (named || both_on p q)
