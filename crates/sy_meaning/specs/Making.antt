-- How objects of the library are made. (SYCL 2020, "SYCL programming interface")
use Rattle.std.specs.List.{list_any}
use Rattle.std.specs.Prelude.{Bool, List, None, Option, Some, [], false, if◌then◌else◌, length, map, nat_lt, not, pos, replicate, slice_index_or, suc, sum, take, true, ℕ, ℤ, ◌&&◌, ◌++◌, ◌+◌, ◌-◌, ◌==◌, ◌^◌, ◌||◌, ◌∷◌}
use Rattle.sy_access.specs.Devices.{is_part}
use Rattle.sy_access.specs.Needs.{reads, writes}
use Rattle.sy_access.specs.declared.access.Mode.{Mode}
use Rattle.sy_access.specs.declared.access.Mode.TheVariants as mode
use Rattle.sy_access.specs.declared.access.Need.{Need}
use Rattle.sy_access.specs.declared.devices.Device.{Device}
use Rattle.sy_num.specs.declared.Kind.{Kind}
use Rattle.sy_range.specs.LinearIds.{linear_id, product}
use Rattle.sy_tree.specs.declared.parts.AccessTag.TheVariants as tag
use Rattle.sy_typed.specs.declared.things.Thing.{Thing}
use Rattle.sy_typed.specs.declared.things.Thing.TheVariants as thing
use Rattle.sy_work.specs.declared.asks.Ask.TheVariants as asks
use Rattle.sy_work.specs.declared.asks.Errc.TheVariants as errc
use Rattle.sy_work.specs.declared.asks.Why.TheVariants as why
use Rattle.sy_work.specs.declared.endings.Cause.TheVariants as cause
use Rattle.sy_meaning.specs.declared.runs.Group.{Group}
use Rattle.sy_meaning.specs.declared.runs.Live.{Live}
use Rattle.sy_meaning.specs.declared.runs.Live.TheVariants as live
use Rattle.sy_meaning.specs.declared.runs.Row.{Row}
use Rattle.sy_meaning.specs.declared.runs.World.{World}
use Rattle.sy_meaning.specs.Words.{Object, accessor_owner, buffer_extents, buffer_first, buffer_number, buffer_root, context_device, context_place, count_of, device_from, device_words, natural, naturals, nothing, number_as, of_naturals}
use Rattle.sy_meaning.specs.Frame.{elements, group_of, lease, lives, put_group}
use Rattle.sy_meaning.specs.Outcomes.{Op, and_then, ask, for_contents, for_number, gives, halts, throws, traps}
use Rattle.sy_meaning.specs.Locations.{with_row}

-- ---- arguments: values with their types

abbrev pub Given : Type 0
Given = Thing × Object

abbrev pub type_at : ℕ → List Given → Thing
type_at k xs = (slice_index_or xs k (thing.Void, nothing)).0

abbrev pub value_at : ℕ → List Given → Object
value_at k xs = (slice_index_or xs k (thing.Void, nothing)).1

abbrev pub has_type : (Thing → Bool) → List Given → Bool
has_type is xs = list_any (λ x. is x.0) xs

-- a range argument: a range or values in braces, or one integer for one dimension
abbrev pub range_in : Thing → Object → List ℕ
range_in (thing.Integer k) o = count_of o ∷ []
range_in t o = naturals 0 o

abbrev pub range_at : ℕ → List Given → List ℕ
range_at k xs = range_in (type_at k xs) (value_at k xs)

abbrev pub counts_in : List Given → List ℕ
counts_in xs = map (λ x. count_of x.1) xs

-- a range or id: one of the same type, or its numbers
abbrev pub make_shape : List Given → Object
make_shape ((thing.Range d, o) ∷ []) = o
make_shape ((thing.Id d, o) ∷ []) = o
make_shape xs = of_naturals (counts_in xs)

-- an nd_range: one, or its global and its local range
abbrev pub make_nd_range : List Given → Object
make_nd_range ((thing.NdRange d, o) ∷ xs) = o
make_nd_range xs = of_naturals (range_at 0 xs ++ range_at 1 xs)

-- ---- vectors (C++17, "Class template vector")

abbrev pub length_limit : ℕ
length_limit = 2 ^ 20

abbrev pub add_row : Bool → List ℤ → World → World
add_row counts values w = record w { rows = w.rows ++ record { values = values; counts = counts; leased = None } ∷ [] }

abbrev pub make_vector : List ℤ → Op
make_vector values w =
    if nat_lt length_limit (elements w + length values)
    then halts why.Length w
    else gives (of_naturals (length w.rows ∷ [])) (add_row true values w)

-- a vector of threads
abbrev pub make_team : Op
make_team w = gives (of_naturals (length w.rows ∷ [])) (add_row false [] w)

-- a count of zeros, or of a value
abbrev pub counted_values : Kind → List Object → List ℤ
counted_values k [] = []
counted_values k (n ∷ []) = replicate (count_of n) (pos 0)
counted_values k (n ∷ o ∷ os) = replicate (count_of n) (number_as k o)

-- ---- buffers ("Buffers")

abbrev pub root_buffer : ℕ → List ℕ → Object
root_buffer n es = of_naturals (n ∷ n ∷ 0 ∷ es)

abbrev pub make_plain : ℕ → Kind → List ℕ → Op
make_plain line k es w =
    for_number line (ask line (asks.MakeBuffer (record { kind = k; range = es; init = None })) w) (λ n. gives (root_buffer n es))

-- over the first elements of a vector, which is leased as soon as the buffer is there
abbrev pub over_row : ℕ → Kind → ℕ → List ℕ → Row → Op
over_row line k v es row w =
    if nat_lt (length row.values) (product es)
    then traps cause.Index line w
    else for_number line (ask line (asks.MakeBuffer (record { kind = k; range = es; init = Some (take (product es) row.values) })) w) (λ n w. gives (root_buffer n es) (lease n v w))

abbrev pub make_over : ℕ → Kind → ℕ → List ℕ → Op
make_over line k v es = with_row line v (over_row line k v es)

abbrev pub make_over_all : ℕ → Kind → ℕ → Op
make_over_all line k v = with_row line v (λ row. over_row line k v (length row.values ∷ []) row)

-- ---- sub-buffers

abbrev pub both : (ℕ → ℕ → ℕ) → List ℕ → List ℕ → List ℕ
both f [] ys = []
both f (x ∷ xs) [] = []
both f (x ∷ xs) (y ∷ ys) = f x y ∷ both f xs ys

-- base and range together pass no extent
abbrev pub fit_in : List ℕ → List ℕ → List ℕ → Bool
fit_in [] rs es = true
fit_in (b ∷ bs) [] es = true
fit_in (b ∷ bs) (r ∷ rs) [] = true
fit_in (b ∷ bs) (r ∷ rs) (e ∷ es) = not (nat_lt e (b + r)) && fit_in bs rs es

-- the last element of a region that isn't empty
abbrev pub last_id : List ℕ → List ℕ → List ℕ
last_id base es = both (λ b e. b + e - 1) base es

-- the linear ids of a region are consecutive: from the first to the last there are as many as elements
abbrev pub is_contiguous : List ℕ → List ℕ → List ℕ → Bool
is_contiguous base es parent =
    (product es == 0) || (linear_id (last_id base es) parent + 1 == linear_id base parent + product es)

abbrev pub is_region : Object → List ℕ → List ℕ → Bool
is_region b base es =
    (buffer_number b == buffer_root b) && (fit_in base es (buffer_extents b) && is_contiguous base es (buffer_extents b))

abbrev pub first_of_region : List ℕ → List ℕ → List ℕ → ℕ
first_of_region base es parent = if product es == 0 then 0 else linear_id base parent

abbrev pub sub_buffer : Object → ℕ → ℕ → List ℕ → Object
sub_buffer b n first es = of_naturals (n ∷ buffer_root b ∷ first ∷ es)

abbrev pub make_sub : ℕ → Object → List ℕ → List ℕ → Op
make_sub line b base es w =
    let first = first_of_region base es (buffer_extents b) in
    if is_region b base es
    then for_number line (ask line (asks.MakeSub (buffer_number b) first es) w) (λ n. gives (sub_buffer b n first es))
    else throws errc.Invalid line w

-- by the type of the first argument
abbrev pub make_buffer : ℕ → Kind → Thing → List Given → Op
make_buffer line k (thing.Vector j) xs = make_over_all line k (natural 0 (value_at 0 xs))
make_buffer line k (thing.Data j) xs = make_over line k (natural 0 (value_at 0 xs)) (range_at 1 xs)
make_buffer line k (thing.Buffer j d) xs = make_sub line (value_at 0 xs) (naturals 0 (value_at 1 xs)) (range_at 2 xs)
make_buffer line k t xs = make_plain line k (range_at 0 xs)

-- ---- needs ("Accessors", "SYCL command groups and execution order")

-- a need on all elements of a buffer
abbrev pub need_of : Object → Mode → Bool → Need
need_of b m no_init =
    record { buffer = buffer_root b; mode = m; no_init = no_init; from = buffer_first b; to = buffer_first b + product (buffer_extents b) }

abbrev pub is_same_run : Need → Need → Bool
is_same_run n m = n.buffer == m.buffer && (n.from == m.from && n.to == m.to)

abbrev pub mode_of : Bool → Bool → Mode
mode_of true true = mode.ReadWrite
mode_of true false = mode.Read
mode_of false true = mode.Write
mode_of false false = mode.Read

-- two needs of the same elements are one
abbrev pub joint : Need → Need → Need
joint n m =
    record n { mode = mode_of (reads n.mode || reads m.mode) (writes n.mode || writes m.mode); no_init = n.no_init && m.no_init }

-- the first of them keeps its index
abbrev pub with_need : Need → List Need → List Need
with_need m [] = m ∷ []
with_need m (n ∷ ns) = if is_same_run n m then joint n m ∷ ns else n ∷ with_need m ns

-- the index of the need with the same elements
abbrev pub need_index : Need → List Need → ℕ
need_index m [] = 0
need_index m (n ∷ ns) = if is_same_run n m then 0 else suc (need_index m ns)

abbrev pub add_need : Need → Group → Group
add_need n g = record g { needs = with_need n g.needs }

-- ---- accessors

abbrev pub is_no_init : Thing → Bool
is_no_init (thing.AccessTag tag.NoInit) = true
is_no_init t = false

abbrev pub accessor : ℕ → ℕ → List ℕ → Object
accessor owner first es = of_naturals (owner ∷ first ∷ es)

abbrev pub is_reduced : Object → World → Bool
is_reduced b w = list_any (λ root. root == buffer_root b) (group_of w).reduced

-- a need of the group; not where a reduction of it has the root
abbrev pub make_accessor : ℕ → Mode → Bool → Object → Op
make_accessor line m no_init b w =
    if is_reduced b w
    then throws errc.Invalid line w
    else gives (accessor (buffer_root b) (buffer_first b) (buffer_extents b)) (put_group (add_need (need_of b m no_init) (group_of w)) w)

abbrev pub local_limit : ℕ
local_limit = 65536

abbrev pub add_local : ℕ → Group → Group
add_local n g = record g { locals = g.locals ++ n ∷ [] }

abbrev pub make_local : ℕ → List ℕ → Op
make_local line es w =
    if nat_lt local_limit (sum (group_of w).locals + product es)
    then throws errc.MemoryAllocation line w
    else gives (accessor (length (group_of w).locals) 0 es) (put_group (add_local (product es) (group_of w)) w)

abbrev pub add_access : List ℤ → World → World
add_access values w = record w { accesses = w.accesses ++ values ∷ [] }

abbrev pub make_host : ℕ → Mode → Bool → Object → Op
make_host line m no_init b w =
    for_contents (ask line (asks.OpenHost (need_of b m no_init)) w) (λ values w. gives (accessor (length w.accesses) 0 (buffer_extents b)) (add_access values w))

-- ---- queues, devices and contexts ("Queue class", "Device class", "Context class")

abbrev pub whole_device : Device
whole_device = record { first = 0; units = 8 }

abbrev pub is_whole : Device → Bool
is_whole d = d.units == 8

abbrev pub device_or_whole : Thing → Object → Device
device_or_whole thing.Device o = device_from 0 o
device_or_whole t o = whole_device

abbrev pub context_words : ℕ → Device → Object
context_words place d = pos place ∷ device_words d

abbrev pub make_context : ℕ → Device → Op
make_context line d w =
    for_number line (ask line (asks.MakeContext d) w) (λ place. gives (context_words place d))

abbrev pub queue_in : ℕ → Bool → Device → ℕ → Op
queue_in line in_order d place w =
    for_number line (ask line (asks.MakeQueue (record { context = place; device = d; in_order = in_order })) w) (λ n. gives (pos n ∷ device_words d))

-- a queue over a part of the device makes a context of its own
abbrev pub queue_over : ℕ → Bool → Device → Op
queue_over line in_order d w =
    if is_whole d
    then queue_in line in_order d 1 w
    else for_number line (ask line (asks.MakeContext d) w) (queue_in line in_order d)

abbrev pub queue_with : ℕ → Bool → Object → Device → Op
queue_with line in_order c d w =
    if is_part d (context_device c) then queue_in line in_order d (context_place c) w else throws errc.Invalid line w

-- by the type of the first argument
abbrev pub make_queue : ℕ → Bool → Thing → List Given → Op
make_queue line in_order thing.Context xs = queue_with line in_order (value_at 0 xs) (device_from 0 (value_at 1 xs))
make_queue line in_order thing.Device xs = queue_over line in_order (device_from 0 (value_at 0 xs))
make_queue line in_order t xs = queue_over line in_order whole_device

abbrev pub is_in_order : Thing → Bool
is_in_order thing.InOrder = true
is_in_order t = false

-- ---- an object of a type

-- made of these arguments, at this line
abbrev pub make : Thing → ℕ → List Given → Op
make (thing.Range d) line xs = gives (make_shape xs)
make (thing.Id d) line xs = gives (make_shape xs)
make (thing.NdRange d) line xs = gives (make_nd_range xs)
make thing.Device line xs = gives (device_words (device_or_whole (type_at 0 xs) (value_at 0 xs)))
make thing.Context line xs = make_context line (device_or_whole (type_at 0 xs) (value_at 0 xs))
make thing.Queue line xs = make_queue line (has_type is_in_order xs) (type_at 0 xs) xs
make (thing.Buffer k d) line xs = make_buffer line k (type_at 0 xs) xs
make (thing.Accessor k d m) line xs = make_accessor line m (has_type is_no_init xs) (value_at 0 xs)
make (thing.HostAccessor k d m) line xs = make_host line m (has_type is_no_init xs) (value_at 0 xs)
make (thing.LocalAccessor k d) line xs = make_local line (range_at 0 xs)
make t line xs = gives (value_at 0 xs)

-- what has to be ended of an object of this type
abbrev pub live_of : Thing → Object → Option Live
live_of (thing.Buffer k d) o = Some (live.Buffer (buffer_number o))
live_of (thing.HostAccessor k d m) o = Some (live.Access (accessor_owner o))
live_of (thing.Vector k) o = Some (live.Row (natural 0 o))
live_of thing.ThreadVector o = Some (live.Team (natural 0 o))
live_of thing.Thread o = Some (live.Thread (natural 0 o))
live_of t o = None

-- an object that has been made is ended with the innermost scope
abbrev pub kept : Option Live → World → World
kept None w = w
kept (Some x) w = lives x w

abbrev pub has_end : Thing → Bool
has_end (thing.Buffer k d) = true
has_end (thing.HostAccessor k d m) = true
has_end t = false

-- a temporary (C++17, "Temporary objects")
abbrev pub make_temporary : Thing → ℕ → List Given → Op
make_temporary t line xs w = and_then (make t line xs w) (λ o w. gives o (kept (live_of t o) w))
