-- A function of place and member over a list.
use Rattle.std.specs.Prelude.{ℕ, suc, List, [], ◌∷◌}

-- the function of place and member at each member, where the first has this place
abbrev pub each_from : {A B : Type 0} → (ℕ → A → B) → ℕ → List A → List B
each_from f k [] = []
each_from f k (x ∷ xs) = f k x ∷ each_from f (suc k) xs
