-- What a program is to the runtime: what its bodies ask, and what its commands do.
use Rattle.std.specs.Prelude.{ℕ, ℤ, pos, List, []}
use Rattle.sy_work.specs.declared.asks.Ask.{Ask}
use Rattle.sy_work.specs.declared.asks.Ask.TheVariants.{Finish}
use Rattle.sy_work.specs.declared.asks.Answer.{Answer}
use Rattle.sy_work.specs.declared.commands.Command.{Command}
use Rattle.sy_work.specs.declared.commands.Outcome.{Outcome}
use Rattle.sy_work.specs.declared.commands.Outcome.TheVariants.{Wrote}

-- the next ask of a body on captures after these answers
abbrev pub NextAsk : Type 0
NextAsk = ℕ → List ℤ → List Answer → Ask

-- what a command is given for one need: the root, the first element, and the numbers
abbrev pub Input : Type 0
Input = ℕ × ℕ × List ℤ

-- what a command does on its inputs
abbrev pub OutcomeOf : Type 0
OutcomeOf = Command → List Input → Outcome

-- a program: the body of its main, and what its bodies ask and its commands do
pub record Program : Type 0 where
  pub main : ℕ
  pub next : NextAsk
  pub outcome : OutcomeOf

-- the program that finishes at once
abbrev pub idle : Program
idle = record { main = 0; next = λ body captures answers. Finish (pos 0); outcome = λ command inputs. Wrote [] }
