-- The items of a range, given by its extents, and their order.
use Rattle.std.specs.Prelude.{◌≡◌, ℕ, ◌+◌, ◌*◌, ◌<◌, ◌⊎◌, List, [], ◌∷◌, ⊤}

-- how many items a range has
abbrev pub product : List ℕ → ℕ
product [] = 1
product (r ∷ rs) = r * product rs

-- the id has a coordinate below each extent of the range, and no more
abbrev pub IsIn : List ℕ → List ℕ → Type 0
IsIn [] [] = ⊤
IsIn [] (r ∷ rs) = ⊥
IsIn (i ∷ is) [] = ⊥
IsIn (i ∷ is) (r ∷ rs) = (i < r) × IsIn is rs

-- row-major order: the first coordinate that differs decides
abbrev pub IsBefore : List ℕ → List ℕ → Type 0
IsBefore [] js = ⊥
IsBefore (i ∷ is) [] = ⊥
IsBefore (i ∷ is) (j ∷ js) = (i < j) ⊎ ((i ≡ j) × IsBefore is js)

-- a step in one coordinate passes all items of the dimensions behind it
abbrev pub linear_id : List ℕ → List ℕ → ℕ
linear_id [] rs = 0
linear_id (i ∷ is) [] = 0
linear_id (i ∷ is) (r ∷ rs) = i * product rs + linear_id is rs
