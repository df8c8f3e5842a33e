-- One to three numbers as a list.
use Rattle.std.specs.Prelude.{ℕ, ◌%◌, Bool, true, false, not, ◌&&◌, ◌==◌, List, [], ◌∷◌}
use Rattle.sy_range.specs.declared.shape.Shape.{Shape}
use Rattle.sy_range.specs.declared.shape.Shape.TheVariants.{One, Two, Three}

abbrev pub listed : Shape → List ℕ
listed (One a) = a ∷ []
listed (Two a b) = a ∷ b ∷ []
listed (Three a b c) = a ∷ b ∷ c ∷ []

-- the shape of a list of one to three numbers
abbrev pub shape_of : List ℕ → Shape
shape_of [] = One 0
shape_of (a ∷ []) = One a
shape_of (a ∷ b ∷ []) = Two a b
shape_of (a ∷ b ∷ c ∷ rest) = Three a b c

-- n is a multiple of the part, which isn't 0
abbrev pub is_multiple : ℕ → ℕ → Bool
is_multiple n part = not (part == 0) && (n % part == 0)

-- each number of the second list is a multiple of the first list's, which isn't 0
abbrev pub divides : List ℕ → List ℕ → Bool
divides [] [] = true
divides [] (n ∷ ns) = false
divides (p ∷ ps) [] = false
divides (p ∷ ps) (n ∷ ns) = is_multiple n p && divides ps ns
