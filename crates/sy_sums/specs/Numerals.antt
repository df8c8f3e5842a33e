-- Decimal literals of a sum: 0, or up to 18 digits that do not begin with 0.
use Rattle.std.specs.Prelude.{ℕ, ◌+◌, ◌-◌, ◌*◌, Bool, ◌&&◌, ◌==◌, nat_eq, nat_lt, nat_le, if◌then◌else◌, List, [], ◌∷◌, length, fold, Option, Some, None}

abbrev pub is_digit : ℕ → Bool
is_digit b = nat_le 48 b && nat_le b 57

-- the number so far with one more digit, of 18 digits at most
abbrev pub push_digit : Option ℕ → ℕ → Option ℕ
push_digit None b = None
push_digit (Some n) b = if is_digit b && nat_lt n 100000000000000000 then Some (10 * n + (b - 48)) else None

-- the number that a literal writes, if it is one of a sum
unfoldable pub number_of : List ℕ → Option ℕ
number_of [] = None
number_of (b ∷ bs) = if b == 48 then (if nat_eq (length bs) 0 then Some 0 else None) else fold push_digit (Some 0) (b ∷ bs)
