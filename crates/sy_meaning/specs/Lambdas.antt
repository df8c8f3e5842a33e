-- What takes a lambda: threads, command groups and their commands.
use Rattle.std.specs.List.{list_any}
use Rattle.std.specs.Prelude.{Bool, List, None, Option, Some, [], false, flat_map, if◌then◌else◌, is_some, map, nat_lt, not, pos, true, ℕ, ℤ, ◌&&◌, ◌++◌, ◌+◌, ◌==◌, ◌^◌, ◌||◌, ◌∷◌}
use Rattle.sy_access.specs.declared.access.Mode.TheVariants as mode
use Rattle.sy_access.specs.declared.access.Need.{Need}
use Rattle.sy_num.specs.declared.Kind.{Kind}
use Rattle.sy_range.specs.LinearIds.{product}
use Rattle.sy_range.specs.NdRanges.{is_nd}
use Rattle.sy_tree.specs.declared.parts.FunctionObject.{FunctionObject}
use Rattle.sy_typed.specs.declared.things.Thing.{Thing}
use Rattle.sy_typed.specs.declared.things.Thing.TheVariants as thing
use Rattle.sy_typed.specs.declared.tree.TypedCapture.{TypedCapture}
use Rattle.sy_typed.specs.declared.tree.TypedCapture.TheVariants as capture
use Rattle.sy_typed.specs.declared.tree.Variable.{Variable}
use Rattle.sy_work.specs.declared.asks.Ask.TheVariants as asks
use Rattle.sy_work.specs.declared.asks.Errc.{Errc}
use Rattle.sy_work.specs.declared.asks.Errc.TheVariants as errc
use Rattle.sy_work.specs.declared.commands.Command.{Command}
use Rattle.sy_work.specs.declared.commands.Command.TheVariants as commands
use Rattle.sy_work.specs.declared.commands.Kernel.{Kernel}
use Rattle.sy_meaning.specs.declared.outcomes.Evaluated.TheVariants.{Stopped, Threw}
use Rattle.sy_meaning.specs.declared.outcomes.Flow.TheVariants as flow
use Rattle.sy_meaning.specs.declared.runs.Group.{Group}
use Rattle.sy_meaning.specs.declared.runs.Location.TheVariants as location
use Rattle.sy_meaning.specs.declared.runs.Run.{Run}
use Rattle.sy_meaning.specs.declared.runs.World.{World}
use Rattle.sy_meaning.specs.Words.{Object, accessor_extents, accessor_first, accessor_owner, buffer_extents, buffer_root, global_extents, kind_in, local_extents, natural, naturals, nothing, number_as, queue_number, reduction_index, reduction_keeps, truth_of, word}
use Rattle.sy_meaning.specs.Frame.{group_of, local, no_group, no_longer, put_group, put_values, row_at}
use Rattle.sy_meaning.specs.Outcomes.{Ex, Flowed, Listed, Op, Valued, and_then, ask, each, for_number, gives, in_world, inside, throws, with_list}
use Rattle.sy_meaning.specs.Locations.{load}
use Rattle.sy_meaning.specs.Combining.{operator_of}
use Rattle.sy_meaning.specs.Expressions.{Lambda}
use Rattle.sy_meaning.specs.Making.{Given, has_type, is_reduced, need_index, need_of, type_at, value_at, with_need}

-- ---- captures (C++17, "Lambda expressions")

-- what the body is given: the object of a declaration, or the number of the element that a name stands for
abbrev pub captured : ℕ → TypedCapture → Ex
captured line (capture.Reference x) r = gives (local x.number r) r
captured line (capture.Copy x) r = gives (local x.number r) r
captured line (capture.Element x) r = load line (kind_in x.what) location.Element (local x.number r) r

abbrev pub variable_of : TypedCapture → Variable
variable_of (capture.Reference x) = x
variable_of (capture.Copy x) = x
variable_of (capture.Element x) = x

abbrev pub captures_of : Lambda → Run → Listed
captures_of l r = each (map (captured l.spot.line) l.captures) r

-- a body over captures is given the words of all of them
abbrev pub all_words : List Object → List ℤ
all_words os = flat_map (λ o. o) os

-- ---- threads (C++17, "thread constructors")

abbrev pub spawned : ℕ → ℕ → List ℤ → Op
spawned line body captures w = for_number line (ask line (asks.Spawn body captures) w) (λ t. gives (pos t ∷ []))

abbrev pub spawn : ℕ → Lambda → Ex
spawn line l r = with_list (captures_of l r) (λ os. inside (spawned line l.number (all_words os)))

abbrev pub put_thread : ℕ → Object → Op
put_thread v t w = gives nothing (put_values v ((row_at v w).values ++ word 0 t ∷ []) w)

abbrev pub emplace_back : ℕ → Lambda → Object → Ex
emplace_back line l o r = and_then (spawn line l r) (λ t. inside (put_thread (natural 0 o) t))

-- ---- commands ("handler class")

-- the error of the first that holds
abbrev pub first_error : List (Bool × Errc) → Option Errc
first_error [] = None
first_error (c ∷ cs) = if c.0 then Some c.1 else first_error cs

abbrev pub commanded : ℕ → Option Errc → Command → Op
commanded line (Some e) c w = throws e line w
commanded line None c w = gives nothing (put_group (record (group_of w) { command = Some c }) w)

abbrev pub is_second : World → Bool
is_second w = is_some (group_of w).command

abbrev pub item_limit : ℕ
item_limit = 2 ^ 20

abbrev pub is_local_accessor : Thing → Bool
is_local_accessor (thing.LocalAccessor k d) = true
is_local_accessor t = false

abbrev pub uses_local : Lambda → Bool
uses_local l = list_any (λ c. is_local_accessor (variable_of c).what) l.captures

abbrev pub kernel : ℕ → Lambda → List Object → World → Kernel
kernel limit l os w =
    record { code = l.number; captures = all_words os; locals = (group_of w).locals; turns = limit }

-- in the order: a second command, the ranges, a local accessor without work-groups
abbrev pub task_error : Lambda → World → Option Errc
task_error l w = first_error ((is_second w, errc.Invalid) ∷ (uses_local l, errc.KernelArgument) ∷ [])

abbrev pub plain_error : List ℕ → Lambda → World → Option Errc
plain_error es l w =
    first_error ((is_second w, errc.Invalid) ∷ (nat_lt item_limit (product es), errc.NdRange) ∷ (uses_local l, errc.KernelArgument) ∷ [])

abbrev pub nd_error : List ℕ → List ℕ → World → Option Errc
nd_error global local w =
    first_error ((is_second w, errc.Invalid) ∷ (not (is_nd global local) || nat_lt item_limit (product global), errc.NdRange) ∷ [])

abbrev pub range_error : Thing → Object → Lambda → World → Option Errc
range_error (thing.NdRange d) o l w = nd_error (global_extents (thing.NdRange d) o) (local_extents (thing.NdRange d) o) w
range_error t o l w = plain_error (naturals 0 o) l w

abbrev pub is_plain : Thing → Bool
is_plain (thing.NdRange d) = false
is_plain t = true

abbrev pub over_range : Thing → Object → Kernel → Command
over_range (thing.NdRange d) o k =
    commands.Nd (record { global = global_extents (thing.NdRange d) o; local = local_extents (thing.NdRange d) o }) k
over_range t o k = commands.Plain (naturals 0 o) k

abbrev pub reduce : ℕ → Thing → Object → FunctionObject → Kind → Object → Kernel → Command
reduce line t o f k d kernel =
    commands.Reduce (record { range = record { global = global_extents t o; local = local_extents t o }; plain = is_plain t; kernel = kernel; need = reduction_index d; op = operator_of f; kind = k; keep = reduction_keeps d; line = line })

-- over a range, and with a reduction where the second argument is one
abbrev pub ranged : ℕ → Given → Given → Kernel → Command
ranged line (t, o) (thing.Reduction k f, d) kernel = reduce line t o f k d kernel
ranged line (t, o) y kernel = over_range t o kernel

abbrev pub given_at : ℕ → List Given → Given
given_at k xs = (type_at k xs, value_at k xs)

abbrev pub single_task : ℕ → ℕ → Lambda → List Object → Op
single_task limit line l os w = commanded line (task_error l w) (commands.Single (kernel limit l os w)) w

-- the arguments before the kernel, and what the kernel captured
abbrev pub parallel_for : ℕ → ℕ → Lambda → List Given → List Object → Op
parallel_for limit line l xs os w =
    commanded line (range_error (type_at 0 xs) (value_at 0 xs) l w) (ranged line (given_at 0 xs) (given_at 1 xs) (kernel limit l os w)) w

-- ---- fill and copy ("SYCL functions for explicit memory operations")

abbrev pub accessor_size : Object → ℕ
accessor_size a = product (accessor_extents a)

-- the index of the need of an accessor
abbrev pub accessor_need : Object → World → ℕ
accessor_need a w =
    need_index (record { buffer = accessor_owner a; mode = mode.Read; no_init = false; from = accessor_first a; to = accessor_first a + accessor_size a }) (group_of w).needs

abbrev pub fill : ℕ → List Given → Op
fill line xs w =
    commanded line (first_error ((is_second w, errc.Invalid) ∷ [])) (commands.Fill (accessor_need (value_at 0 xs) w) (number_as (kind_in (type_at 0 xs)) (value_at 1 xs))) w

abbrev pub is_smaller : Object → Object → Bool
is_smaller a b = nat_lt (accessor_size a) (accessor_size b)

abbrev pub copy : ℕ → List Given → Op
copy line xs w =
    commanded line (first_error ((is_second w || is_smaller (value_at 1 xs) (value_at 0 xs), errc.Invalid) ∷ [])) (commands.Copy (accessor_need (value_at 0 xs) w) (accessor_need (value_at 1 xs) w)) w

abbrev pub depends_on : Object → Op
depends_on e w =
    gives nothing (put_group (record (group_of w) { after = (group_of w).after ++ natural 0 e ∷ [] }) w)

-- ---- reductions ("Reduction variables")

abbrev pub is_identity_tag : Thing → Bool
is_identity_tag thing.InitializeToIdentity = true
is_identity_tag t = false

abbrev pub need_of_reduction : Object → Bool → Need
need_of_reduction b keep = need_of b (if keep then mode.ReadWrite else mode.Write) (not keep)

abbrev pub add_reduction : Need → Group → Group
add_reduction n g = record g { needs = with_need n g.needs; reduced = n.buffer ∷ g.reduced }

-- a need on the root that is no reduction's is an accessor's
abbrev pub has_accessor : Object → World → Bool
has_accessor b w = list_any (λ n. n.buffer == buffer_root b) (group_of w).needs && not (is_reduced b w)

-- the index of its need, and whether the former value takes part
abbrev pub reduced_by : Need → Bool → Op
reduced_by n keep w =
    let g = add_reduction n (group_of w) in
    gives (pos (need_index n g.needs) ∷ truth_of keep) (put_group g w)

-- a variable of one element whose root no accessor of the group names
abbrev pub make_reduction : ℕ → List Given → Op
make_reduction line xs w =
    let b = value_at 0 xs in
    let keep = not (has_type is_identity_tag xs) in
    if not (product (buffer_extents b) == 1) || has_accessor b w
    then throws errc.Invalid line w
    else reduced_by (need_of_reduction b keep) keep w

-- ---- a command group: its lambda runs in the thread that submits it, on that thread's locals ("Queue class")

abbrev pub sent : ℕ → ℕ → Group → Option Command → Op
sent line q g None w = throws errc.Invalid line w
sent line q g (Some c) w =
    for_number line (ask line (asks.Submit (record { queue = q; command = c; needs = g.needs; after = g.after })) w) (λ n. gives (pos n ∷ []))

abbrev pub submitted : ℕ → ℕ → Flowed → Valued
submitted line q (flow.Threw e l, r) = (Threw e l, r)
submitted line q (flow.Stopped a, r) = (Stopped a, r)
submitted line q (f, r) = in_world (sent line q (group_of r.world) (group_of r.world).command (no_longer r.world)) r

abbrev pub in_group : Run → Run
in_group r = record r { world = put_group no_group r.world }

abbrev pub submit : ℕ → Lambda → Object → Ex
submit line l q r = submitted line (queue_number q) (l.body.run (in_group r))
