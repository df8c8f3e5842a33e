-- Calls that don't fail.
use Rattle.std.proofs.Common.{◌≡◌, ℕ, List, Result, Ok, Err, length, arith, rules}
use Rattle.std.specs.List.{Contains}
use Rattle.std.specs.Result.{IsOk, IsErr}

pub IsOk-from_no_err : {T E : Type 0} (r : Result T E) → (IsErr r → ⊥) → IsOk r
IsOk-from_no_err (Ok x) h = search rules
IsOk-from_no_err (Err e) h = absurd (h (search rules))

pub none_in_empty : (xs : List ℕ) (x : ℕ) → length xs ≡ 0 → Contains xs x → ⊥
none_in_empty xs x e h = omega (arith, h.1)
