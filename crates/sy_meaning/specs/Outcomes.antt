-- What parts of a body come to, and how a body goes on after a part.
use Rattle.std.specs.Prelude.{Bool, Err, List, None, Ok, Option, Result, Some, [], false, if◌then◌else◌, is_some, true, ℕ, ℤ, ◌++◌, ◌-◌, ◌==◌, ◌∷◌}
use Rattle.sy_num.specs.Scalars.{Scalar}
use Rattle.sy_num.specs.declared.Undefined.{Undefined}
use Rattle.sy_num.specs.declared.Undefined.TheVariants as undefined
use Rattle.sy_work.specs.declared.asks.Answer.{Answer}
use Rattle.sy_work.specs.declared.asks.Answer.TheVariants as answer
use Rattle.sy_work.specs.declared.asks.Ask.{Ask}
use Rattle.sy_work.specs.declared.asks.Ask.TheVariants as asks
use Rattle.sy_work.specs.declared.asks.Errc.{Errc}
use Rattle.sy_work.specs.declared.asks.Halt.TheVariants as halt
use Rattle.sy_work.specs.declared.asks.Why.{Why}
use Rattle.sy_work.specs.declared.asks.Why.TheVariants as why
use Rattle.sy_work.specs.declared.endings.Cause.{Cause}
use Rattle.sy_work.specs.declared.endings.Cause.TheVariants as cause
use Rattle.sy_meaning.specs.declared.outcomes.Evaluated.{Evaluated}
use Rattle.sy_meaning.specs.declared.outcomes.Evaluated.TheVariants.{Gives, Stopped, Threw}
use Rattle.sy_meaning.specs.declared.outcomes.Flow.{Flow}
use Rattle.sy_meaning.specs.declared.outcomes.Flow.TheVariants as flow
use Rattle.sy_meaning.specs.declared.outcomes.Reply.{Reply}
use Rattle.sy_meaning.specs.declared.outcomes.Reply.TheVariants as reply
use Rattle.sy_meaning.specs.declared.runs.Run.{Run}
use Rattle.sy_meaning.specs.declared.runs.World.{World}
use Rattle.sy_meaning.specs.Words.{Object, of_scalar}
use Rattle.sy_meaning.specs.Frame.{no_longer}

abbrev pub Valued : Type 0
Valued = Evaluated × Run

abbrev pub Flowed : Type 0
Flowed = Flow × Run

-- what an expression means, and what a statement means
abbrev pub Ex : Type 0
Ex = Run → Valued

abbrev pub St : Type 0
St = Run → Flowed

-- what an operation of the library means, which has nothing to do with locals
abbrev pub Op : Type 0
Op = World → Evaluated × World

abbrev pub in_world : Evaluated × World → Run → Valued
in_world a r = (a.0, record r { world = a.1 })

abbrev pub inside : Op → Ex
inside f r = in_world (f r.world) r

-- ---- going on: an error, a halt and an open ask pass all that follows

abbrev pub gives : {S : Type 0} → Object → S → Evaluated × S
gives o r = (Gives o, r)

abbrev pub and_then : {S : Type 0} → Evaluated × S → (Object → S → Evaluated × S) → Evaluated × S
and_then (Gives o, r) go = go o r
and_then (Threw e l, r) go = (Threw e l, r)
and_then (Stopped a, r) go = (Stopped a, r)

abbrev pub with_value : Valued → (Object → St) → Flowed
with_value (Gives o, r) go = go o r
with_value (Threw e l, r) go = (flow.Threw e l, r)
with_value (Stopped a, r) go = (flow.Stopped a, r)

-- after a statement that came to its end
abbrev pub then_do : Flowed → St → Flowed
then_do (flow.Normal, r) go = go r
then_do (f, r) go = (f, r)

abbrev pub in_turn : List St → St
in_turn [] r = (flow.Normal, r)
in_turn (s ∷ ss) r = then_do (s r) (in_turn ss)

-- operands from left to right: what they gave, or what ended them
abbrev pub Listed : Type 0
Listed = Option Evaluated × List Object × Run

abbrev pub one_more : Valued → List Object → (List Object → Run → Listed) → Listed
one_more (Gives o, r) os go = go (os ++ o ∷ []) r
one_more (Threw e l, r) os go = (Some (Threw e l), os, r)
one_more (Stopped a, r) os go = (Some (Stopped a), os, r)

abbrev pub each_after : List Ex → List Object → Run → Listed
each_after [] os r = (None, os, r)
each_after (e ∷ es) os r = one_more (e r) os (each_after es)

abbrev pub each : List Ex → Run → Listed
each es r = each_after es [] r

abbrev pub with_list : Listed → (List Object → Ex) → Valued
with_list (None, os, r) go = go os r
with_list (Some v, os, r) go = (v, r)

-- ---- halts, traps and errors

abbrev pub halts : {S : Type 0} → Why → S → Evaluated × S
halts y r = (Stopped (asks.Halt (halt.Terminated y)), r)

abbrev pub trap_ask : Cause → ℕ → Ask
trap_ask c line = asks.Halt (halt.Trapped c line)

abbrev pub traps : {S : Type 0} → Cause → ℕ → S → Evaluated × S
traps c line r = (Stopped (trap_ask c line), r)

-- an error where no `try` is open ends the run, and nothing is destroyed. It leaves the command group
-- (C++17, "Throwing an exception", "The std::terminate() function")
abbrev pub throws : Errc → ℕ → Op
throws e line w = if w.tries == 0 then halts (why.Errc e) w else (Threw e line, no_longer w)

abbrev pub cause_of : Undefined → Cause
cause_of undefined.Overflow = cause.Overflow
cause_of undefined.ZeroDivisor = cause.ZeroDivisor
cause_of undefined.Shift = cause.Shift

-- the value of an operator at this line
abbrev pub computed : {S : Type 0} → ℕ → Result Scalar Undefined → S → Evaluated × S
computed line (Ok x) r = gives (of_scalar x) r
computed line (Err u) r = traps (cause_of u) line r

-- ---- turns

abbrev pub spent : ℕ → World → Ask
spent line w = if is_some w.at then trap_ask cause.Turns line else asks.Halt (halt.TurnsSpent line)

abbrev pub turn : World → Bool × World
turn w = if w.turns == 0 then (false, w) else (true, record w { turns = w.turns - 1 })

abbrev pub on_turn : ℕ → Run → Bool × World → Ex → Valued
on_turn line r (true, w) go = go (record r { world = w })
on_turn line r (false, w) go = (Stopped (spent line w), record r { world = w })

-- ---- asks

abbrev pub Replied : Type 0
Replied = Reply × World

-- the next of the answers that are left; what was asked is kept with it
abbrev pub answered : Ask → List Answer → World → Replied
answered a [] w = (reply.Stopped a, w)
answered a (x ∷ rest) w = (reply.Answered x, record w { feed = rest; asked = (a, x) ∷ w.asked })

abbrev pub asked : ℕ → Ask → Bool × World → Replied
asked line a (true, w) = answered a w.feed w
asked line a (false, w) = (reply.Stopped (spent line w), w)

-- an ask is a turn at its line
abbrev pub ask : ℕ → Ask → World → Replied
ask line a w = asked line a (turn w)

-- goes on with the number of the answer; one that has none counts as 0
abbrev pub for_number : ℕ → Replied → (ℕ → Op) → Evaluated × World
for_number line (reply.Answered (answer.Number n), w) go = go n w
for_number line (reply.Answered (answer.Refused e), w) go = throws e line w
for_number line (reply.Answered a, w) go = go 0 w
for_number line (reply.Stopped a, w) go = (Stopped a, w)

abbrev pub contents_of : Answer → List ℤ
contents_of (answer.Contents values) = values
contents_of a = []

abbrev pub for_contents : Replied → (List ℤ → Op) → Evaluated × World
for_contents (reply.Answered a, w) go = go (contents_of a) w
for_contents (reply.Stopped a, w) go = (Stopped a, w)

abbrev pub for_done : Replied → Op → Evaluated × World
for_done (reply.Answered a, w) go = go w
for_done (reply.Stopped a, w) go = (Stopped a, w)
