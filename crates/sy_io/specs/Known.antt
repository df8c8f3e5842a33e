-- Parts of the bytes that a source has left or a sink has taken, where it tells them.
use Rattle.std.specs.Prelude.{◌≡◌, ℕ, ◌<◌, ◌≤◌, List, Option, length, take}
use Rattle.std.specs.Io.KnownBytes.{Appends, Consumes}

-- n bytes were consumed
abbrev pub ConsumesExactly : Option (List ℕ) → Option (List ℕ) → ℕ → Type 0
ConsumesExactly old new n = (bytes : List ℕ) × Consumes old new bytes × (length bytes ≡ n)

-- at most n bytes were consumed
abbrev pub ConsumesAtMost : Option (List ℕ) → Option (List ℕ) → ℕ → Type 0
ConsumesAtMost old new n = (bytes : List ℕ) × Consumes old new bytes × (length bytes ≤ n)

-- some of the bytes, from the first on but not all, were appended
abbrev pub AppendsFront : Option (List ℕ) → Option (List ℕ) → List ℕ → Type 0
AppendsFront old new bytes = (n : ℕ) × (n < length bytes) × Appends old new (take n bytes)
