-- A program whose bodies ask what lists say, as long as they are answered as the lists want.
use Rattle.std.specs.Prelude.{◌≡◌, ℕ, ◌+◌, ℤ, pos, Bool, nat_lt, true, false, not, ◌||◌, if◌then◌else◌, List, [], ◌∷◌, length, Option, Some, None, slice_get, slice_index_or}
use Rattle.sy_work.specs.Programs.{NextAsk}
use Rattle.sy_work.specs.declared.asks.Ask.{Ask}
use Rattle.sy_work.specs.declared.asks.Ask.TheVariants.{Finish, Halt}
use Rattle.sy_work.specs.declared.asks.Halt.TheVariants.{Trapped}
use Rattle.sy_work.specs.declared.asks.Answer.{Answer}
use Rattle.sy_work.specs.declared.endings.Cause.TheVariants.{Index}
use Rattle.sy_scripted.specs.declared.scripts.Line.{Line}
use Rattle.sy_scripted.specs.Answers.{suits}

-- the lines of a body
abbrev pub script_of : List (List Line) → ℕ → List Line
script_of scripts body = slice_index_or scripts body []

abbrev pub ask_of : Option Line → Ask
ask_of None = Finish (pos 0)
ask_of (Some line) = line.ask

-- the ask after k answers; a script that is over finishes
abbrev pub ask_at : List Line → ℕ → Ask
ask_at script k = ask_of (slice_get script k)

abbrev pub suits_line : Option Line → Answer → Bool
suits_line None a = true
suits_line (Some line) a = suits line.wants a

-- the answer of the ask after k answers is as wanted
abbrev pub suits_at : List Line → ℕ → Answer → Bool
suits_at script k a = suits_line (slice_get script k) a

-- one of the answers is not as wanted
abbrev pub differ : List Answer → List Line → Bool
differ [] script = false
differ (a ∷ answers) [] = false
differ (a ∷ answers) (line ∷ script) = not (suits line.wants a) || differ answers script

-- the ask after k answers, or a trap where one of them was not as wanted
abbrev pub next_at : List Line → Bool → ℕ → Ask
next_at script true k = Halt (Trapped Index 0)
next_at script false k = ask_at script k

-- the place in a script of so many lines after one more answer
abbrev pub place_after : ℕ → ℕ → ℕ
place_after at count = if nat_lt at count then at + 1 else at

-- the next asks that the scripts say
abbrev pub scripted : List (List Line) → NextAsk
scripted scripts body captures answers = next_at (script_of scripts body) (differ answers (script_of scripts body)) (length answers)

-- the function asks what the scripts say
abbrev pub Plays : NextAsk → List (List Line) → Type 0
Plays next scripts = (body : ℕ) (captures : List ℤ) (answers : List Answer) → next body captures answers ≡ scripted scripts body captures answers
