-- What an answer in code says of an expression or statement of the definitions: unless memory is wanting, it has come to this,
-- and the state is the new one.
use Rattle.std.specs.Prelude.{◌≡◌, Err, Ok, Result, ⊤}
use Rattle.sy_meaning.specs.Outcomes.{Ex, Flowed, Valued}
use Rattle.sy_meaning.specs.Words.{Object}
use Rattle.sy_meaning.specs.declared.outcomes.Evaluated.{Evaluated}
use Rattle.sy_meaning.specs.declared.outcomes.Evaluated.TheVariants.{Gives, Stopped, Threw}
use Rattle.sy_meaning.specs.declared.outcomes.Flow.TheVariants as flow
use Rattle.sy_meaning.specs.declared.runs.Run.{Run}
use Rattle.sy_outcomes.specs.declared.exits.Exit.{Exit}
use Rattle.sy_outcomes.specs.declared.exits.Exit.TheVariants as exit
use Rattle.sy_outcomes.specs.declared.stops.Stop.{Stop}
use Rattle.sy_outcomes.specs.declared.stops.Stop.TheVariants as stop

-- of an expression, or of an operation on a state
abbrev pub Evaluates : {S : Type 0} → Evaluated × S → Result Object Stop → S → Type 0
Evaluates came (Ok o) new = came ≡ (Gives o, new)
Evaluates came (Err (stop.Threw e line)) new = came ≡ (Threw e line, new)
Evaluates came (Err (stop.Asked a)) new = came ≡ (Stopped a, new)
Evaluates came (Err stop.Memory) new = ⊤

-- of a part with whose parts an expression goes on
abbrev pub Passes : {A : Type 0} → ((A → Ex) → Valued) → Result A Stop → Run → Type 0
Passes {A} came (Ok x) new = (go : A → Ex) → came go ≡ go x new
Passes {A} came (Err s) new = (go : A → Ex) → Evaluates (came go) (Err s) new

-- of a statement that is left before its end
abbrev pub Leaves : Flowed → Exit → Run → Type 0
Leaves came (exit.Broke line) new = came ≡ (flow.Broke line, new)
Leaves came (exit.Continued line) new = came ≡ (flow.Continued line, new)
Leaves came (exit.Returned o line) new = came ≡ (flow.Returned o line, new)
Leaves came (exit.Stopped (stop.Threw e line)) new = came ≡ (flow.Threw e line, new)
Leaves came (exit.Stopped (stop.Asked a)) new = came ≡ (flow.Stopped a, new)
Leaves came (exit.Stopped stop.Memory) new = ⊤

-- of a statement
abbrev pub Executes : {U : Type 0} → Flowed → Result U Exit → Run → Type 0
Executes came (Ok u) new = came ≡ (flow.Normal, new)
Executes came (Err e) new = Leaves came e new
