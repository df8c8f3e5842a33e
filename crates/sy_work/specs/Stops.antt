-- How far a host came in a slice of turns.
use Rattle.std.specs.Prelude.{ℕ, ◌+◌, ◌<◌, ◌≤◌, Result, Ok, Err}
use Rattle.sy_work.specs.declared.asks.Ask.{Ask}
use Rattle.sy_work.specs.declared.hosts.HostStop.{HostStop}
use Rattle.sy_work.specs.declared.hosts.HostStop.TheVariants.{Asked, Sliced}

-- a fact of an ask that came, a fact where the slice was spent, and one where it failed
abbrev pub MatchStop : {E : Type 0} → Result HostStop E → (Ask → Type 0) → Type 0 → Type 0 → Type 0
MatchStop (Ok (Asked ask)) P spent failed = P ask
MatchStop (Ok Sliced) P spent failed = spent
MatchStop (Err e) P spent failed = failed

-- of the turns that were left, fewer than the slice were taken
abbrev pub TakesFewer : ℕ → ℕ → ℕ → Type 0
TakesFewer slice old new = (new ≤ old) × (old < new + slice)
