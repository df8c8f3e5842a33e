-- *Next ask*: what a body asks after the answers that it was given, evaluated from its start.
use Rattle.std.specs.Prelude.{List, None, Option, Some, [], drop, pos, slice_get, suc, zero, ℕ, ℤ, ◌∷◌}
use Rattle.sy_access.specs.declared.cells.Cell.TheVariants as cell
use Rattle.sy_num.specs.declared.Kind.{Kind}
use Rattle.sy_range.specs.declared.nd_ranges.Position.{Position}
use Rattle.sy_typed.specs.declared.things.Thing.{Thing}
use Rattle.sy_typed.specs.declared.things.Thing.TheVariants as thing
use Rattle.sy_typed.specs.declared.tree.Variable.{Variable}
use Rattle.sy_work.specs.Inputs.{results_number}
use Rattle.sy_work.specs.Programs.{NextAsk}
use Rattle.sy_work.specs.Reductions.{identity}
use Rattle.sy_work.specs.declared.asks.Answer.{Answer}
use Rattle.sy_work.specs.declared.asks.Ask.{Ask}
use Rattle.sy_work.specs.declared.asks.Ask.TheVariants as asks
use Rattle.sy_work.specs.declared.asks.Halt.TheVariants as halt
use Rattle.sy_work.specs.declared.asks.Why.TheVariants as why
use Rattle.sy_meaning.specs.declared.outcomes.Evaluated.TheVariants.{Stopped, Threw}
use Rattle.sy_meaning.specs.declared.outcomes.Flow.TheVariants as flow
use Rattle.sy_meaning.specs.declared.runs.Run.{Run}
use Rattle.sy_meaning.specs.declared.runs.Step.TheVariants as steps
use Rattle.sy_meaning.specs.declared.runs.Store.{Store}
use Rattle.sy_meaning.specs.declared.runs.World.{World}
use Rattle.sy_meaning.specs.Words.{Object, as_thing, nothing, number_as, of_naturals, sized, taken_as, width, word}
use Rattle.sy_meaning.specs.Frame.{local, put}
use Rattle.sy_meaning.specs.Outcomes.{Ex, Flowed, St, Valued, gives, spent}
use Rattle.sy_meaning.specs.Locations.{stepped}
use Rattle.sy_meaning.specs.Combining.{operator_of}
use Rattle.sy_meaning.specs.Expressions.{Calls}
use Rattle.sy_meaning.specs.Library.{global_id, position}
use Rattle.sy_meaning.specs.Meaning.{block}
use Rattle.sy_meaning.specs.Bodies.{Body}
use Rattle.sy_meaning.specs.Asks.{Log}

-- ---- what a body begins with

-- arguments in the locals of the parameters, converted to their types
abbrev pub bound_all : List Variable → List Object → Run → Run
bound_all [] os r = r
bound_all (x ∷ xs) [] r = r
bound_all (x ∷ xs) (o ∷ os) r = bound_all xs os (put x.number (as_thing x.what o) r)

-- the word of an integer is taken into its kind, other words stand as they are
abbrev pub object_from : Thing → List ℤ → Object
object_from (thing.Integer k) zs = taken_as k (word 0 zs)
object_from t zs = sized (width t) zs

-- the objects whose words these are, one after another
abbrev pub objects_from : List Variable → List ℤ → List Object
objects_from [] zs = []
objects_from (x ∷ xs) zs = object_from x.what zs ∷ objects_from xs (drop (width x.what) zs)

-- what a parameter of a kernel is at the start of an item
abbrev pub item_object : Thing → Run → Object
item_object (thing.Id d) r = of_naturals (global_id (position r.world))
item_object (thing.Item d) r = of_naturals (global_id (position r.world))
item_object (thing.Reducer k f) r = identity (operator_of f) k ∷ []
item_object t r = nothing

abbrev pub bound_item : List Variable → Run → Run
bound_item [] r = r
bound_item (x ∷ xs) r = bound_item xs (put x.number (item_object x.what r) r)

-- ---- functions (C++17, "Function call", "The return statement")

abbrev pub converted_to : Option Kind → Object → Object
converted_to None o = nothing
converted_to (Some k) o = number_as k o ∷ []

-- what a function without a `return` gives
abbrev pub zero_of : Option Kind → Object
zero_of None = nothing
zero_of (Some k) = pos 0 ∷ []

-- what a call gives, on the locals of its caller
abbrev pub result_of : Option Kind → List Object → Flowed → Valued
result_of k frame (flow.Returned o line, r) = gives (converted_to k o) (record r { frame = frame })
result_of k frame (flow.Threw e line, r) = (Threw e line, record r { frame = frame })
result_of k frame (flow.Stopped a, r) = (Stopped a, r)
result_of k frame (f, r) = gives (zero_of k) (record r { frame = frame })

-- a function begins on locals of its own
abbrev pub entered : (Body → St) → Option Body → List Object → Ex
entered means None os r = gives nothing r
entered means (Some b) os r = result_of b.returned r.frame (means b (bound_all b.captures os (record r { frame = [] })))

-- ---- host threads

abbrev pub no_store : Store
no_store = record { cells = [] }

abbrev pub world_at_start : ℕ → List Answer → World
world_at_start limit answers =
    record { rows = []; accesses = []; scopes = []; joined = []; tries = 0; group = None; turns = limit; feed = answers; asked = []; at = None; store = no_store; later = []; steps = [] }

abbrev pub start : ℕ → List Answer → Run
start limit answers = record { frame = []; world = world_at_start limit answers }

-- `main` gives an int, other bodies 0
abbrev pub finish_of : Option Kind → Object → ℤ
finish_of None o = pos 0
finish_of (Some k) o = number_as k o

-- the ask at which a body stands that came to this
abbrev pub ask_of : Option Kind → Flowed → Ask
ask_of k (flow.Returned o line, r) = asks.Finish (finish_of k o)
ask_of k (flow.Threw e line, r) = asks.Halt (halt.Terminated (why.Errc e))
ask_of k (flow.Stopped a, r) = a
ask_of k (f, r) = asks.Finish (pos 0)

-- ---- work items

-- an item at a position, with the stores of its phases so far
abbrev pub in_item : Position → List Store → World → World
in_item p [] w = record w { at = Some p }
in_item p (s ∷ ss) w = record w { at = Some p; store = s; later = ss }

-- the answers end all phases but the last
abbrev pub item_start : ℕ → Position → List Store → List Answer → Run
item_start limit p stores answers = record { frame = []; world = in_item p stores (world_at_start limit answers) }

-- as its last step an item of a reduction puts its result among the results
abbrev pub result_step : ℕ → Thing → Object → Run → Run
result_step line (thing.Reducer k f) o r =
    record r { world = stepped (steps.Wrote (cell.Buffer results_number (position r.world).item) (word 0 o) line) r.world }
result_step line t o r = r

abbrev pub with_result : ℕ → List Variable → Run → Run
with_result line [] r = r
with_result line (x ∷ xs) r = with_result line xs (result_step line x.what (local x.number r) r)

abbrev pub item_end : ℕ → List Variable → Flowed → Ask × Run
item_end line xs (flow.Stopped a, r) = (a, r)
item_end line xs (f, r) = (asks.Finish (pos 0), with_result line xs r)

-- ---- bodies by their numbers, for so many turns

module _ (bodies : List Body) (limit : ℕ) where
  abbrev pub means_with : Calls → Body → St
  means_with calls b = (block calls limit b.block).run

  -- calls that go at most so deep: each takes a turn, so turns bound them
  abbrev pub calls_of : ℕ → Calls
  calls_of zero f os r = (Stopped (spent 0 r.world), r)
  calls_of (suc n) f os r = entered (means_with (calls_of n)) (slice_get bodies f) os r

  abbrev pub means : Body → St
  means b = means_with (calls_of limit) b

  -- where a body is after these answers
  abbrev pub stands : Body → List ℤ → List Answer → Flowed
  stands b captures answers =
      means b (bound_all b.captures (objects_from b.captures captures) (start limit answers))

  abbrev pub next_in : Option Body → List ℤ → List Answer → Ask
  next_in None captures answers = asks.Finish (pos 0)
  next_in (Some b) captures answers = ask_of b.returned (stands b captures answers)

  abbrev pub next : NextAsk
  next body captures answers = next_in (slice_get bodies body) captures answers

  abbrev pub asks_in : Option Body → List ℤ → List Answer → Log
  asks_in None captures answers = []
  asks_in (Some b) captures answers = (stands b captures answers).1.world.asked

  -- what a body has asked until then, with the answers, the last first
  abbrev pub asks_before : ℕ → List ℤ → List Answer → Log
  asks_before body captures answers = asks_in (slice_get bodies body) captures answers

  abbrev pub item_run : Body → List ℤ → Run → Run
  item_run b captures r = bound_item b.parameters (bound_all b.captures (objects_from b.captures captures) r)

  abbrev pub last_line : Body → ℕ
  last_line b = (block (calls_of limit) limit b.block).last

  abbrev pub item_in : Option Body → List ℤ → Run → Ask × Run
  item_in None captures r = (asks.Finish (pos 0), r)
  item_in (Some b) captures r = item_end (last_line b) b.parameters (means b (item_run b captures r))

  -- the stop of an item's last phase, and the item as it then is: its steps are those of that phase
  abbrev pub item : ℕ → List ℤ → Position → List Store → List Answer → Ask × Run
  item body captures p stores answers =
      item_in (slice_get bodies body) captures (item_start limit p stores answers)
