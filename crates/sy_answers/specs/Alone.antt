-- Steps that start no thread.
use Rattle.std.specs.Prelude.{ℕ, zero, suc, List, [], ◌∷◌}
use Rattle.sy_work.specs.Programs.{Program}
use Rattle.sy_onecopy.specs.State.{State, next_ask}
use Rattle.sy_onecopy.specs.Step.{step}
use Rattle.sy_answers.specs.Fitting.{IsSpawn}

-- none of the steps of thread 0 in this order, from state s on, starts a thread
abbrev pub StartsNone : Program → State → List ℕ → Type 0
StartsNone p s [] = Unit {0}
StartsNone p s (zero ∷ ts) = (IsSpawn (next_ask p s 0) → ⊥) × StartsNone p (step p s 0) ts
StartsNone p s (suc t ∷ ts) = StartsNone p (step p s (suc t)) ts
