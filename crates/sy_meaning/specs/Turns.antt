-- How a run goes on: answers are taken from the front, and each takes a turn.
use Rattle.std.specs.Prelude.{List, None, Option, Some, [], drop, length, ℕ, ⊤, ◌+◌, ◌≡◌, ◌≤◌}
use Rattle.sy_typed.specs.declared.tree.Typed.{Typed, fold-Typed}
use Rattle.sy_typed.specs.declared.tree.TypedStmt.{TypedStmt, fold-TypedStmt}
use Rattle.sy_work.specs.declared.asks.Answer.{Answer}
use Rattle.sy_work.specs.declared.asks.Ask.{Ask}
use Rattle.sy_work.specs.declared.asks.Ask.TheVariants as asks
use Rattle.sy_meaning.specs.declared.outcomes.Evaluated.{Evaluated}
use Rattle.sy_meaning.specs.declared.outcomes.Evaluated.TheVariants.{Stopped}
use Rattle.sy_meaning.specs.declared.outcomes.Flow.{Flow}
use Rattle.sy_meaning.specs.declared.outcomes.Flow.TheVariants as flow
use Rattle.sy_meaning.specs.declared.outcomes.Reply.{Reply}
use Rattle.sy_meaning.specs.declared.outcomes.Reply.TheVariants as reply
use Rattle.sy_meaning.specs.declared.runs.Run.{Run}
use Rattle.sy_meaning.specs.declared.runs.World.{World}
use Rattle.sy_meaning.specs.Asks.{Log, answers_in}
use Rattle.sy_meaning.specs.Outcomes.{Ex, Op, St}
use Rattle.sy_meaning.specs.Expressions.{Argument, Block, Calls, Exp, Lambda}
use Rattle.sy_meaning.specs.Statements.{Again, Initializer, Printing, Statement, again, loop}
use Rattle.sy_range.specs.declared.nd_ranges.Position.{Position}
use Rattle.sy_meaning.specs.declared.runs.Store.{Store}
use Rattle.sy_meaning.specs.Items.{Item}
use Rattle.sy_meaning.specs.Meaning.{Node, argument_step, block_step, declaration_step, declarator_step, full_step, initializer_step, lambda_step, node_step, printed_step, stmt_step, typed_step}

-- whether the next answer is for it: an ask that is neither a halt nor the end
abbrev pub Waits : Option Ask → Type 0
Waits None = ⊥
Waits (Some (asks.Halt h)) = ⊥
Waits (Some (asks.Finish z)) = ⊥
Waits (Some a) = ⊤

-- an ask after which its body asks nothing
abbrev pub IsEnd : Ask → Type 0
IsEnd (asks.Halt h) = ⊤
IsEnd (asks.Finish z) = ⊤
IsEnd a = ⊥

abbrev pub stop_of : Evaluated → Option Ask
stop_of (Stopped a) = Some a
stop_of v = None

abbrev pub flow_stop : Flow → Option Ask
flow_stop (flow.Stopped a) = Some a
flow_stop f = None

abbrev pub reply_stop : Reply → Option Ask
reply_stop (reply.Stopped a) = Some a
reply_stop (reply.Answered x) = None

abbrev pub list_stop : Option Evaluated → Option Ask
list_stop None = None
list_stop (Some v) = stop_of v

abbrev pub round_stop : Option Flow → Option Ask
round_stop None = None
round_stop (Some f) = flow_stop f

-- the answers that are left, and what was asked
abbrev pub Fed : Type 0
Fed = List Answer × Log

abbrev pub feed_of : World → Fed
feed_of w = (w.feed, w.asked)

-- all answers: those that were taken, and those that are left
abbrev pub all_answers : Fed → List Answer
all_answers f = answers_in f.1 f.0

-- from these answers and turns to those, up to an ask if the run stands at one. Where that waits for an answer, none is
-- left, and the ask has taken a turn too. Each answer that was taken is noted with its ask
pub record Taken (before : Fed) (turns : ℕ) (stop : Option Ask) (after : Fed) (left : ℕ) : Type 0 where
  pub count : ℕ
  pub from_front : after.0 ≡ drop count before.0
  pub by_turns : left + count ≤ turns
  pub at_end : Waits stop → (after.0 ≡ []) × (left + count + 1 ≤ turns)
  pub noted : all_answers after ≡ all_answers before

-- the second state can come of the first
abbrev pub Leads : World → World → Type 0
Leads w v = Taken (feed_of w) w.turns None (feed_of v) v.turns

abbrev pub LeadsOn : Run → Run → Type 0
LeadsOn r s = Leads r.world s.world

-- ---- what only leads on: turns fall, and answers are taken from the front

abbrev pub OpLeads : Op → Type 0
OpLeads f = (w : World) → Taken (feed_of w) w.turns (stop_of (f w).0) (feed_of (f w).1) (f w).1.turns

abbrev pub ExLeads : Ex → Type 0
ExLeads f = (r : Run) → Taken (feed_of r.world) r.world.turns (stop_of (f r).0) (feed_of (f r).1.world) (f r).1.world.turns

abbrev pub StLeads : St → Type 0
StLeads f = (r : Run) → Taken (feed_of r.world) r.world.turns (flow_stop (f r).0) (feed_of (f r).1.world) (f r).1.world.turns

-- what an expression designates, and its value
abbrev pub ExpLeads : Exp → Type 0
ExpLeads e = ExLeads e.locate × ExLeads e.run

abbrev pub MaybeExp : Option Exp → Type 0
MaybeExp None = ⊤
MaybeExp (Some e) = ExpLeads e

abbrev pub MaybeStatement : Option Statement → Type 0
MaybeStatement None = ⊤
MaybeStatement (Some s) = StLeads s.run

-- ---- phases

-- an item that stands at an ask that waits was given fewer answers than it has turns
abbrev pub IsBounded : Item → ℕ → Type 0
IsBounded item turns = (p : Position) (stores : List Store) (answers : List Answer) → Waits (Some (item p stores answers).0) → length answers + 1 ≤ turns

-- ---- loops

-- a round after which the loop goes on has taken a turn
abbrev pub TakesTurn : (Run → Again) → Type 0
TakesTurn once = (r s : Run) → once r ≡ (None, s) → s.world.turns + 1 ≤ r.world.turns

-- a loop is a round, and then the loop: nothing in it bounds the rounds
abbrev pub IsRepeated : (Run → Again) → Type 0
IsRepeated once = (r : Run) → loop once r ≡ again (once r) (loop once)

-- what an expression and a statement of a tree mean
module _ (calls : Calls) (limit : ℕ) where
  abbrev pub expression : Typed → Exp
  expression =
      fold-Typed Argument Statement St Statement Initializer Node Printing Statement Exp Block Lambda (argument_step calls limit) (declaration_step calls limit) (declarator_step calls limit) (full_step calls limit) (initializer_step calls limit) (node_step calls limit) (printed_step calls limit) (stmt_step calls limit) (typed_step calls limit) (block_step calls limit) (lambda_step calls limit)

  abbrev pub statement : TypedStmt → Statement
  statement =
      fold-TypedStmt Argument Statement St Statement Initializer Node Printing Statement Exp Block Lambda (argument_step calls limit) (declaration_step calls limit) (declarator_step calls limit) (full_step calls limit) (initializer_step calls limit) (node_step calls limit) (printed_step calls limit) (stmt_step calls limit) (typed_step calls limit) (block_step calls limit) (lambda_step calls limit)
