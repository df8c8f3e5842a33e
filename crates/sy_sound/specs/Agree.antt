-- Programs that cannot be told apart by the steps of a run.
use Rattle.std.specs.Prelude.{◌≡◌, ℕ, List, [], ◌∷◌}
use Rattle.sy_work.specs.Programs.{Program, OutcomeOf, Input}
use Rattle.sy_work.specs.Inputs.{InputsFit}
use Rattle.sy_work.specs.declared.commands.Command.{Command}
use Rattle.sy_onecopy.specs.State.{State, next_ask}
use Rattle.sy_onecopy.specs.Step.{step}
use Rattle.sy_sound.specs.Known.{IsKnown}

-- commands that are known do the same on inputs that fit them
abbrev pub AgreeOn : (Command → Type 0) → OutcomeOf → OutcomeOf → Type 0
AgreeOn knows f g = (c : Command) (inputs : List Input) → knows c → InputsFit c inputs → f c inputs ≡ g c inputs

-- in each of these steps from state s the two programs ask the same, and submit known commands alone
abbrev pub AskAlike : (Command → Type 0) → Program → Program → State → List ℕ → Type 0
AskAlike knows p q s [] = Unit {0}
AskAlike knows p q s (t ∷ ts) = (next_ask q s t ≡ next_ask p s t) × IsKnown knows (next_ask p s t) × AskAlike knows p q (step p s t) ts
