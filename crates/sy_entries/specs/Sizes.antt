-- What makes the numbers of buffers and elements fit their types.
use Rattle.std.specs.Prelude.{◌≡◌, ℕ, ◌+◌, ◌<◌, ◌≤◌, ◌^◌, List, length, All, Option, Some, None}
use Rattle.sy_onecopy.specs.declared.Buffer.{Buffer}

-- the buffers and their elements are numbered by 32 bits
pub record AreNumbered (buffers : List Buffer) : Type 0 where
  pub few : length buffers ≤ 2 ^ 32
  pub small : All (λ (x : Buffer). length x.values ≤ 2 ^ 22) buffers

-- the count of new elements, where they fit beside those that are live
abbrev pub Fitting : ℕ → ℕ → Option ℕ → Type 0
Fitting live count None = 2 ^ 22 < live + count
Fitting live count (Some n) = (n ≡ count) × (live + count ≤ 2 ^ 22)
