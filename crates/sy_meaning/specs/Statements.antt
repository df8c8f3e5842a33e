-- What statements and declarations mean, one definition per form. (C++17, "Statements", "Declarators")
use Rattle.std.specs.List.{list_any, range_with_len}
use Rattle.std.specs.Prelude.{Bool, List, None, Option, Some, [], false, if◌then◌else◌, map, pos, pred, suc, true, zero, ℕ, ℤ, ◌+◌, ◌∷◌}
use Rattle.sy_num.specs.declared.Kind.{Kind}
use Rattle.sy_tree.specs.declared.parts.Brackets.{Brackets}
use Rattle.sy_tree.specs.declared.parts.Brackets.TheVariants as brackets
use Rattle.sy_typed.specs.declared.things.ErrorName.{ErrorName}
use Rattle.sy_typed.specs.declared.things.ErrorName.TheVariants as names
use Rattle.sy_typed.specs.declared.things.Thing.{Thing}
use Rattle.sy_typed.specs.declared.things.Thing.TheVariants as thing
use Rattle.sy_typed.specs.declared.tree.Variable.{Variable}
use Rattle.sy_work.specs.Reductions.{step}
use Rattle.sy_work.specs.declared.asks.Ask.TheVariants as asks
use Rattle.sy_work.specs.declared.asks.Errc.{Errc}
use Rattle.sy_work.specs.declared.asks.Errc.TheVariants as errc
use Rattle.sy_meaning.specs.declared.outcomes.Evaluated.TheVariants.{Gives, Stopped, Threw}
use Rattle.sy_meaning.specs.declared.outcomes.Flow.{Flow}
use Rattle.sy_meaning.specs.declared.outcomes.Flow.TheVariants as flow
use Rattle.sy_meaning.specs.declared.runs.Live.{Live}
use Rattle.sy_meaning.specs.declared.runs.Live.TheVariants as live
use Rattle.sy_meaning.specs.declared.runs.Run.{Run}
use Rattle.sy_meaning.specs.declared.runs.World.{World}
use Rattle.sy_meaning.specs.Words.{Object, as_thing, count_of, device_at, device_words, is_zero, kind_in, natural, nothing, number_as, of_naturals, scalar_of, word}
use Rattle.sy_meaning.specs.Frame.{local, put, row_at}
use Rattle.sy_meaning.specs.Outcomes.{Ex, Flowed, Op, St, Valued, ask, each, for_done, gives, in_turn, inside, spent, then_do, turn, with_list, with_value}
use Rattle.sy_meaning.specs.Ends.{in_full, in_scope}
use Rattle.sy_meaning.specs.Locations.{read_element}
use Rattle.sy_meaning.specs.Expressions.{Argument, Exp, Lambda, braced, full, lambda, makes_of, run_of, value}
use Rattle.sy_meaning.specs.Making.{Given, counted_values, kept, live_of, make, make_team, make_vector}
use Rattle.sy_meaning.specs.Library.{printed, size_of}
use Rattle.sy_meaning.specs.Lambdas.{spawn}

-- a statement: what it means, and the line of its last token
pub record Statement : Type 0 where
  pub run : St
  pub last : ℕ

abbrev pub normal : St
normal r = (flow.Normal, r)

-- a statement that is the body of another is a scope ("Selection statements", "Iteration statements")
abbrev pub scoped : Statement → St
scoped s = in_scope s.last s.run

-- ---- expressions as statements, and choices

abbrev pub discarded : Ex → St
discarded e r = with_value (e r) (λ o. normal)

abbrev pub returned : ℕ → Option Exp → St
returned line None r = (flow.Returned nothing line, r)
returned line (Some e) r = with_value (full e r) (λ o r. (flow.Returned o line, r))

abbrev pub choose : Exp → St → St → St
choose c a b r = with_value (full c r) (λ v. if is_zero v then b else a)

abbrev pub scoped_or_nothing : Option Statement → St
scoped_or_nothing None = normal
scoped_or_nothing (Some s) = scoped s

-- ---- loops ("Iteration statements")

-- where a loop is after one round: out of it, or ready for the next
abbrev pub Again : Type 0
Again = Option Flow × Run

abbrev pub again : Again → St → Flowed
again (None, r) go = go r
again (Some f, r) go = (f, r)

abbrev pub tested : Valued → (Run → Again) → Again
tested (Gives v, r) go = if is_zero v then (Some flow.Normal, r) else go r
tested (Threw e l, r) go = (Some (flow.Threw e l), r)
tested (Stopped a, r) go = (Some (flow.Stopped a), r)

abbrev pub after_body : Flowed → Again
after_body (flow.Normal, r) = (None, r)
after_body (flow.Continued l, r) = (None, r)
after_body (f, r) = (Some f, r)

abbrev pub on_round : Again → (Run → Again) → Again
on_round (None, r) go = go r
on_round (Some f, r) go = (Some f, r)

-- one start of the body is a turn
abbrev pub turned : ℕ → Run → Bool × World → St → Again
turned line r (true, w) b = after_body (b (record r { world = w }))
turned line r (false, w) b = (Some (flow.Stopped (spent line w)), r)

abbrev pub round : ℕ → St → Run → Again
round line b r = turned line r (turn r.world) b

abbrev pub test_of : Option Exp → Run → (Run → Again) → Again
test_of None r go = go r
test_of (Some c) r go = tested (full c r) go

abbrev pub while_once : ℕ → Option Exp → St → Run → Again
while_once line c b r = test_of c r (round line b)

abbrev pub do_once : ℕ → Exp → St → Run → Again
do_once line c b r = on_round (round line b r) (λ r. tested (full c r) (λ r. (None, r)))

abbrev pub for_once : ℕ → Option Exp → St → St → Run → Again
for_once line c step b r = on_round (while_once line c b r) (λ r. after_body (step r))

-- each round takes a turn, so that so many rounds are enough
abbrev pub rounds : ℕ → (Run → Again) → St
rounds zero once r = (flow.Stopped (spent 0 r.world), r)
rounds (suc n) once r = again (once r) (rounds n once)

abbrev pub loop : (Run → Again) → St
loop once r = rounds (r.world.turns + 1) once r

-- a `break` ends with the loop
abbrev pub absorbed : Flowed → Flowed
absorbed (flow.Broke l, r) = (flow.Normal, r)
absorbed (f, r) = (f, r)

abbrev pub while_loop : ℕ → Exp → Statement → St
while_loop line c b r = absorbed (loop (while_once line (Some c) (scoped b)) r)

abbrev pub do_loop : ℕ → Exp → Statement → St
do_loop line c b r = absorbed (loop (do_once line c (scoped b)) r)

abbrev pub step_of : Option Statement → St
step_of None = normal
step_of (Some s) = s.run

-- what the head declares lives through the loop; the `break` that leaves the loop leaves its scope
abbrev pub for_loop : ℕ → Statement → Option Exp → Option Statement → Statement → St
for_loop line head c step b r =
    absorbed (in_scope b.last (λ r. then_do (head.run r) (loop (for_once line c (step_of step) (scoped b)))) r)

-- ---- the range-based for

-- the i-th element of a vector of the type: its number, or which it is where it is named by reference
abbrev pub element : ℕ → Thing → Bool → Object → ℕ → Ex
element line (thing.Vector k) true v i = gives (of_naturals (natural 0 v ∷ i ∷ []))
element line (thing.Vector k) false v i = inside (read_element line k (natural 0 v) i)
element line thing.ThreadVector by_reference v i = λ r. gives (word i (row_at (natural 0 v) r.world).values ∷ []) r
element line t by_reference v i = gives (device_words (device_at v i))

abbrev pub bound : Thing → Bool → Object → Object
bound t true o = o
bound t false o = as_thing t o

abbrev pub for_element : ℕ → Variable → Bool → Thing → Object → St → ℕ → St
for_element line x by_reference t v b i r =
    with_value (element line t by_reference v i r) (λ o r. b (put x.number (bound x.what by_reference o) r))

abbrev pub each_element : ℕ → (ℕ → St) → List ℕ → St
each_element line b [] r = (flow.Normal, r)
each_element line b (i ∷ is) r = again (round line (b i) r) (each_element line b is)

-- the size is taken once, as the loop starts; a round takes its turn and then the element
abbrev pub range_for : ℕ → Variable → Bool → Variable → Statement → St
range_for line x by_reference v b r =
    let o = local v.number r in
    absorbed (each_element line (for_element line x by_reference v.what o (scoped b)) (range_with_len 0 (size_of v.what o r.world)) r)

-- ---- printing (C++17, "Standard iostream objects")

-- an item of a print, with what is known of its expression
pub record Printing : Type 0 where
  pub run : St
  pub makes : Bool
  pub last : ℕ

abbrev pub prints : ℕ → List ℕ → Op
prints line bytes w = for_done (ask line (asks.Print bytes) w) (gives nothing)

abbrev pub print_operand : ℕ → Exp → St
print_operand line e r = with_value (e.run r) (λ o. discarded (inside (prints line (printed (scalar_of e.what o)))))

abbrev pub printing_run : Printing → St
printing_run p = p.run

abbrev pub printing_makes : Printing → Bool
printing_makes p = p.makes

abbrev pub last_printed : List Printing → ℕ
last_printed [] = 0
last_printed (p ∷ []) = p.last
last_printed (p ∷ q ∷ ps) = last_printed (q ∷ ps)

-- the whole statement is one full expression
abbrev pub print_all : List Printing → St
print_all ps =
    if list_any printing_makes ps
    then in_scope (last_printed ps) (in_turn (map printing_run ps))
    else in_turn (map printing_run ps)

-- ---- arguments

abbrev pub argument_run : Argument → Ex
argument_run (value e) = e.run
argument_run (braced es last) = λ r. with_list (each (map run_of es) r) (λ os. gives (of_naturals (map count_of os)))
argument_run (lambda l) = gives nothing

abbrev pub argument_what : Argument → Thing
argument_what (value e) = e.what
argument_what (braced es last) = thing.Void
argument_what (lambda l) = thing.Void

abbrev pub argument_makes : Argument → Bool
argument_makes (value e) = e.makes
argument_makes (braced es last) = list_any makes_of es
argument_makes (lambda l) = false

abbrev pub argument_last : Argument → ℕ
argument_last (value e) = e.last
argument_last (braced es last) = last
argument_last (lambda l) = l.body.last

abbrev pub any_makes : List Argument → Bool
any_makes xs = list_any argument_makes xs

-- values with the types of their arguments
abbrev pub given : List Argument → List Object → List Given
given [] os = []
given (x ∷ xs) [] = []
given (x ∷ xs) (o ∷ os) = (argument_what x, o) ∷ given xs os

abbrev pub with_arguments : List Argument → (List Given → Ex) → Ex
with_arguments xs go r = with_list (each (map argument_run xs) r) (λ os. go (given xs os))

-- the line of the last argument's last token
abbrev pub arguments_last : ℕ → List Argument → ℕ
arguments_last line [] = line
arguments_last line (x ∷ xs) = arguments_last (argument_last x) xs

-- ---- declarations ("Initializers")

pub data Initializer : Type 0 where
  copied : Exp → Initializer
  direct : Brackets → List Argument → Initializer

-- what has to be ended of what is declared, by its value
abbrev pub End : Type 0
End = Object → Option Live

abbrev pub no_end : End
no_end o = None

abbrev pub row_end : End
row_end o = Some (live.Row (natural 0 o))

abbrev pub team_end : End
team_end o = Some (live.Team (natural 0 o))

abbrev pub thread_end : End
thread_end o = Some (live.Thread (natural 0 o))

-- it is ended with the scope of its declaration
abbrev pub declared_as : Variable → Option Live → Object → Run → Run
declared_as x l o r = put x.number (as_thing x.what o) (record r { world = kept l r.world })

abbrev pub declared : Variable → End → Valued → Flowed
declared x end made = with_value made (λ o r. (flow.Normal, declared_as x (end o) o r))

-- an integer without an initializer is 0
abbrev pub declare_zero : Variable → St
declare_zero x r = declared x no_end (gives (pos 0 ∷ []) r)

abbrev pub declare_value : Variable → Exp → St
declare_value x e r = declared x no_end (full e r)

-- the temporaries among the arguments end before the object stands in its scope
abbrev pub with_all : ℕ → List Argument → (List Given → Ex) → Ex
with_all line xs go = in_full (any_makes xs) (arguments_last line xs) (with_arguments xs go)

-- made of the arguments: `=` gives one
abbrev pub made_of : Variable → List Argument → Ex
made_of x xs = with_all x.spot.line xs (λ ys. inside (make x.what x.spot.line ys))

abbrev pub made_object : Variable → Option Initializer → Ex
made_object x None = inside (make x.what x.spot.line [])
made_object x (Some (copied e)) = made_of x (value e ∷ [])
made_object x (Some (direct b xs)) = made_of x xs

abbrev pub values_of : List Given → List Object
values_of xs = map (λ x. x.1) xs

-- values in braces are the elements; else there is a count, which a value may follow
abbrev pub vector_values : Kind → Brackets → List Object → List ℤ
vector_values k brackets.Braces os = map (number_as k) os
vector_values k brackets.Parentheses os = counted_values k os

abbrev pub vector_of : Variable → Brackets → List Argument → Ex
vector_of x b xs =
    with_all x.spot.line xs (λ ys. inside (make_vector (vector_values (kind_in x.what) b (values_of ys))))

abbrev pub made_vector : Variable → Option Initializer → Ex
made_vector x None = inside (make_vector [])
made_vector x (Some (copied e)) = vector_of x brackets.Parentheses (value e ∷ [])
made_vector x (Some (direct b xs)) = vector_of x b xs

abbrev pub declare_object : Variable → Option Initializer → St
declare_object x i r = declared x (live_of x.what) (made_object x i r)

abbrev pub declare_vector : Variable → Option Initializer → St
declare_vector x i r = declared x row_end (made_vector x i r)

-- a vector of threads
abbrev pub declare_team : Variable → St
declare_team x r = declared x team_end (inside make_team r)

abbrev pub declare_thread : Variable → Lambda → St
declare_thread x l r = declared x thread_end (spawn x.spot.line l r)

-- ---- errors (C++17, "Handling an exception"; SYCL 2020, "Error handling")

abbrev pub error_of : ErrorName → Errc
error_of names.Runtime = errc.Runtime
error_of names.NdRange = errc.NdRange
error_of names.KernelArgument = errc.KernelArgument
error_of names.Invalid = errc.Invalid
error_of names.MemoryAllocation = errc.MemoryAllocation

-- an error code is one word
abbrev pub error_word : Errc → ℕ
error_word errc.Runtime = 0
error_word errc.NdRange = 1
error_word errc.KernelArgument = 2
error_word errc.Invalid = 3
error_word errc.MemoryAllocation = 4

abbrev pub error_object : Errc → Object
error_object e = of_naturals (error_word e ∷ [])

abbrev pub raised : Run → Run
raised r = record r { world = record (r.world) { tries = suc r.world.tries } }

-- the handler is outside the `try`
abbrev pub lowered : Run → Run
lowered r = record r { world = record (r.world) { tries = pred r.world.tries } }

abbrev pub caught : Variable → St → Flowed → Flowed
caught x handler (flow.Threw e l, r) = handler (put x.number (error_object e) (lowered r))
caught x handler (f, r) = (f, lowered r)

abbrev pub try_block : St → Variable → St → St
try_block b x handler r = caught x handler (b (raised r))
