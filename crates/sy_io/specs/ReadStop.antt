-- What stopped the reading of a whole source, and how the source stands then.
use Rattle.std.specs.Prelude.{◌≡◌, ℕ, ◌+◌, ◌<◌, List, Option, ⊤, length}
use Rattle.sy_io.specs.declared.ReadStop.{ReadStop}
use Rattle.sy_io.specs.declared.ReadStop.TheVariants.{TooLong, Fault, Memory}
use Rattle.sy_io.specs.Faults.{Rose}
use Rattle.sy_io.specs.Known.{ConsumesExactly, ConsumesAtMost}

-- TooLong took the one byte past the limit, and the others took no more than the limit
abbrev pub ConsumesUntil : ReadStop → ℕ → Option (List ℕ) → Option (List ℕ) → Type 0
ConsumesUntil TooLong limit old new = ConsumesExactly old new (limit + 1)
ConsumesUntil Fault limit old new = ConsumesAtMost old new limit
ConsumesUntil Memory limit old new = ConsumesAtMost old new limit

-- one fault was counted where reading stopped at a fault, and none where it stopped at something else
abbrev pub StopHasCause : ReadStop → ℕ → ℕ → Type 0
StopHasCause TooLong before now = now ≡ before
StopHasCause Fault before now = Rose before now
StopHasCause Memory before now = now ≡ before

-- TooLong comes only where there are more bytes than the limit
abbrev pub FitsLength : ReadStop → ℕ → List ℕ → Type 0
FitsLength TooLong limit bytes = limit < length bytes
FitsLength Fault limit bytes = ⊤
FitsLength Memory limit bytes = ⊤
