-- Lists of numbers by a key, and how often a list has a number.
use Rattle.std.specs.Prelude.{ℕ, ◌+◌, ◌<◌, Bool, true, false, ◌==◌, List, [], ◌∷◌}

abbrev pub one_if : Bool → ℕ
one_if true = 1
one_if false = 0

-- how often the list has the number
abbrev pub count : List ℕ → ℕ → ℕ
count [] n = 0
count (m ∷ ms) n = one_if (m == n) + count ms n

abbrev pub Has : List ℕ → ℕ → Type 0
Has xs n = 0 < count xs n
