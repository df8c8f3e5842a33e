-- How many commands a run submits.
use Rattle.std.specs.Prelude.{ℕ, ◌+◌, List, [], ◌∷◌}
use Rattle.sy_work.specs.declared.asks.Ask.{Ask}
use Rattle.sy_work.specs.declared.asks.Ask.TheVariants.{Submit}
use Rattle.sy_work.specs.Programs.{Program}
use Rattle.sy_onecopy.specs.State.{State, start, next_ask}
use Rattle.sy_onecopy.specs.Step.{step}

abbrev pub is_submit : Ask → ℕ
is_submit (Submit submission) = 1
is_submit ask = 0

-- how many of the steps submit a command
abbrev pub submits_in : Program → State → List ℕ → ℕ
submits_in p s [] = 0
submits_in p s (t ∷ ts) = is_submit (next_ask p s t) + submits_in p (step p s t) ts

abbrev pub commands : Program → List ℕ → ℕ
commands p order = submits_in p (start p) order
