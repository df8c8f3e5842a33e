-- A main that prints sums, as a host.
use Rattle.std.specs.Prelude.{◌≡◌, ℕ, ◌-◌, ℤ, pos, List, [], ◌∷◌, ◌++◌, length, drop, nat_lt, slice_get, filter_map, flat_map, Option, Some, None, ⊤}
use Rattle.sy_tree.specs.declared.tree.Stmt.{Stmt}
use Rattle.sy_work.specs.declared.asks.Ask.{Ask}
use Rattle.sy_work.specs.declared.asks.Ask.TheVariants.{Finish}
use Rattle.sy_work.specs.declared.asks.Answer.{Answer}
use Rattle.sy_work.specs.Programs.{NextAsk}
use Rattle.sy_sums.specs.declared.asked.Asked.{Asked}
use Rattle.sy_sums.specs.declared.asked.Asked.TheVariants as asked
use Rattle.sy_sums.specs.declared.sums.Operand.{Operand}
use Rattle.sy_sums.specs.Sums.{ask_of_sum, ask_here, operand_of, printed_by}

-- the sums that these statements print, without those of the first items of the first of them, so many
abbrev pub ahead : ℕ → List Stmt → List Operand
ahead done [] = []
ahead done (x ∷ more) = filter_map operand_of (drop done (printed_by x)) ++ filter_map operand_of (flat_map printed_by more)

-- what is next, with what is ahead behind it
abbrev pub taken : Option Operand → List Operand → List Operand
taken None ops = []
taken (Some o) ops = o ∷ ops

abbrev pub asked_ask : ℕ → Asked → Ask
asked_ask left (asked.Sum o) = ask_of_sum (nat_lt 0 left) o.line o.given
asked_ask left (asked.Other q) = q

-- the ask that is open, if one is
abbrev pub open_ask : ℕ → Option Asked → Option Ask
open_ask left None = None
open_ask left (Some a) = Some (asked_ask left a)

-- how the ask of the next sum is kept: behind the last one main finishes
abbrev pub asked_of : Option Operand → Asked
asked_of None = asked.Other (Finish (pos 0))
asked_of (Some o) = asked.Sum o

-- the sums that are still unanswered: the one that is asked, and those ahead
abbrev pub unanswered : Option Asked → List Operand → List Operand
unanswered None ops = ops
unanswered (Some (asked.Sum o)) ops = o ∷ ops
unanswered (Some (asked.Other q)) ops = []

-- another ask than that of a sum is the last one
abbrev pub IsLast : Option Asked → Type 0
IsLast None = ⊤
IsLast (Some (asked.Sum o)) = ⊤
IsLast (Some (asked.Other q)) = q ≡ Finish (pos 0)

-- each body asks what these sums say, after so many answers
abbrev pub PlaysSums : NextAsk → ℕ → List Operand → Type 0
PlaysSums next turns ops =
    (body : ℕ) (captures : List ℤ) (answers : List Answer) →
    next body captures answers ≡ ask_here (nat_lt (length answers) turns) (slice_get ops (length answers))

-- these turns are left and these sums unanswered, after so many answers to a main that prints sums
pub record StandsFor (next : NextAsk) (count left : ℕ) (open_one : Option Asked) (rest : List Operand) : Type 0 where
  pub turns : ℕ
  pub ops : List Operand
  pub plays : PlaysSums next turns ops
  pub counted : left ≡ turns - count
  pub last : IsLast open_one
  pub here : unanswered open_one rest ≡ drop count ops
