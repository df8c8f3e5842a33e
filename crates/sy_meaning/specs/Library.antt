-- What members and functions of the library mean that take no lambda. (SYCL 2020, "SYCL programming interface")
use Rattle.std.specs.Fmt.{signed_decimal}
use Rattle.std.specs.Prelude.{Bool, List, None, [], false, if◌then◌else◌, length, nat_lt, pos, slice_get, true, unwrap_or, ℕ, ℤ, ◌%◌, ◌++◌, ◌+◌, ◌/◌, ◌==◌, ◌||◌, ◌∷◌}
use Rattle.sy_access.specs.declared.devices.Device.{Device}
use Rattle.sy_num.specs.Scalars.{Scalar, bits_of}
use Rattle.sy_num.specs.declared.Kind.{Kind}
use Rattle.sy_num.specs.declared.Kind.TheVariants as kinds
use Rattle.sy_note.specs.declared.Spot.{Spot}
use Rattle.sy_range.specs.LinearIds.{linear_id, product}
use Rattle.sy_range.specs.declared.nd_ranges.Position.{Position}
use Rattle.sy_tree.specs.declared.parts.LibraryFunction.{LibraryFunction}
use Rattle.sy_tree.specs.declared.parts.LibraryFunction.TheVariants as library
use Rattle.sy_typed.specs.declared.things.Member.{Member}
use Rattle.sy_typed.specs.declared.things.Member.TheVariants as member
use Rattle.sy_typed.specs.declared.things.Thing.{Thing}
use Rattle.sy_typed.specs.declared.things.Thing.TheVariants as thing
use Rattle.sy_work.specs.declared.asks.Ask.TheVariants as asks
use Rattle.sy_work.specs.declared.asks.Errc.TheVariants as errc
use Rattle.sy_work.specs.declared.asks.Why.TheVariants as why
use Rattle.sy_work.specs.declared.commands.Form.{Form}
use Rattle.sy_work.specs.declared.commands.Form.TheVariants as forms
use Rattle.sy_work.specs.declared.commands.RedOp.{RedOp}
use Rattle.sy_work.specs.declared.commands.RedOp.TheVariants as red
use Rattle.sy_work.specs.declared.endings.Cause.TheVariants as cause
use Rattle.sy_meaning.specs.declared.runs.Store.{Store}
use Rattle.sy_meaning.specs.declared.runs.World.{World}
use Rattle.sy_meaning.specs.Words.{Object, count_of, device_count, device_from, device_words, extents_of, kind_in, natural, nothing, number_as, of_naturals, queue_device, queue_number, taken_as, unsigned_long, word}
use Rattle.sy_meaning.specs.Frame.{elements, is_joined, joined, put_values, row_at}
use Rattle.sy_meaning.specs.Outcomes.{Op, ask, for_contents, for_done, gives, halts, throws, traps}
use Rattle.sy_meaning.specs.Locations.{coordinate, with_row}
use Rattle.sy_meaning.specs.Combining.{operator_of}
use Rattle.sy_meaning.specs.Making.{Given, both, length_limit, value_at}

-- ---- printing

abbrev pub is_byte : Kind → Bool
is_byte kinds.Char = true
is_byte kinds.SChar = true
is_byte kinds.UChar = true
is_byte k = false

-- a number of a char kind is one byte, others are in decimal
abbrev pub printed : Scalar → List ℕ
printed s = if is_byte s.kind then bits_of s.kind s.num ∷ [] else signed_decimal s.num

-- ---- the position of a work item ("Multi-dimensional objects and linearization", "nd_item class")

abbrev pub no_position : Position
no_position = record { global = 1 ∷ []; local = None; item = 0 }

abbrev pub position : World → Position
position w = unwrap_or w.at no_position

abbrev pub local_range : Position → List ℕ
local_range p = unwrap_or p.local p.global

-- the coordinates of the n-th item of a range
abbrev pub coordinates : ℕ → List ℕ → List ℕ
coordinates n [] = []
coordinates n (e ∷ es) = n / product es ∷ coordinates (n % product es) es

abbrev pub global_id : Position → List ℕ
global_id p = coordinates p.item p.global

abbrev pub local_id : Position → List ℕ
local_id p = both (λ i l. i % l) (global_id p) (local_range p)

abbrev pub group_id : Position → List ℕ
group_id p = both (λ i l. i / l) (global_id p) (local_range p)

abbrev pub group_range : Position → List ℕ
group_range p = both (λ g l. g / l) p.global (local_range p)

-- the coordinate that the argument names, or all
abbrev pub one_or_all : ℕ → List ℕ → List Given → Op
one_or_all line is [] = gives (of_naturals is)
one_or_all line is (x ∷ xs) = coordinate line (slice_get is (count_of x.1))

-- ---- devices ("Device class")

-- as many parts of this many units as fit: the first of them, and how many
abbrev pub partitioned : ℕ → Device → ℕ → Op
partitioned line d n w =
    if n == 0 || nat_lt d.units n
    then throws errc.Invalid line w
    else gives (of_naturals (d.first ∷ n ∷ d.units / n ∷ [])) w

abbrev pub device_of : Thing → Object → Device
device_of thing.Queue o = queue_device o
device_of t o = device_from 0 o

-- ---- vectors (C++17, "Class template vector")

-- a leased vector first
abbrev pub push_back : ℕ → Kind → ℕ → Object → Op
push_back line k v o =
    with_row line v (λ row w. if nat_lt length_limit (elements w + 1) then halts why.Length w else gives nothing (put_values v (row.values ++ number_as k o ∷ []) w))

abbrev pub size_of : Thing → Object → World → ℕ
size_of (thing.Vector k) o w = length (row_at (natural 0 o) w).values
size_of thing.ThreadVector o w = length (row_at (natural 0 o) w).values
size_of thing.DeviceVector o w = device_count o
size_of t o w = product (extents_of t o)

-- ---- threads (C++17, "thread members") and waits ("Queue class", "Event class")

abbrev pub join : ℕ → ℕ → Op
join line t w =
    if is_joined t w
    then halts why.NotJoinable w
    else for_done (ask line (asks.Join t) w) (λ w. gives nothing (joined t w))

abbrev pub wait : ℕ → Thing → Object → Op
wait line thing.Queue o w = for_done (ask line (asks.WaitQueue (queue_number o)) w) (gives nothing)
wait line t o w = for_done (ask line (asks.WaitNode (natural 0 o)) w) (gives nothing)

abbrev pub wait_and_throw : ℕ → Object → Op
wait_and_throw line o w = for_done (ask line (asks.ThrowQueue (queue_number o)) w) (gives nothing)

-- ---- members of an object of the type, with their arguments

-- the range of an item is that of its kernel
abbrev pub range_of : Thing → Object → World → List ℕ
range_of (thing.Item d) o w = (position w).global
range_of t o w = extents_of t o

abbrev pub give_long : (World → ℕ) → Op
give_long f w = gives (unsigned_long (f w)) w

-- a group stands for itself; one coordinate of it is a number
abbrev pub group_or_coordinate : ℕ → List Given → Op
group_or_coordinate line [] w = gives nothing w
group_or_coordinate line (x ∷ xs) w = coordinate line (slice_get (group_id (position w)) (count_of x.1)) w

-- those of an item, nd_item and group
abbrev pub item_member : Member → ℕ → List Given → Op
item_member member.GetId line xs = λ w. one_or_all line (global_id (position w)) xs w
item_member member.GetGlobalId line xs = λ w. one_or_all line (global_id (position w)) xs w
item_member member.GetLocalId line xs = λ w. one_or_all line (local_id (position w)) xs w
item_member member.GetGlobalRange line xs = λ w. one_or_all line (position w).global xs w
item_member member.GetLocalRange line xs = λ w. one_or_all line (local_range (position w)) xs w
item_member member.GetGroupRange line xs = λ w. one_or_all line (group_range (position w)) xs w
item_member member.GetGroup line xs = group_or_coordinate line xs
item_member member.GetLinearId line xs = give_long (λ w. (position w).item)
item_member member.GetGlobalLinearId line xs = give_long (λ w. (position w).item)
item_member member.GetLocalLinearId line xs = give_long (λ w. linear_id (local_id (position w)) (local_range (position w)))
item_member member.GetGroupLinearId line xs = give_long (λ w. linear_id (group_id (position w)) (group_range (position w)))
item_member m line xs = gives nothing

abbrev pub library_member : Member → ℕ → Thing → Object → List Given → Op
library_member member.Wait line t o xs = wait line t o
library_member member.WaitAndThrow line t o xs = wait_and_throw line o
library_member member.GetDevice line t o xs = gives (device_words (device_of t o))
library_member member.CreateSubDevices line t o xs = partitioned line (device_of t o) (count_of (value_at 0 xs))
library_member member.MaxComputeUnits line t o xs = gives (taken_as kinds.UInt (pos (device_of t o).units))
library_member member.GetRange line t o xs = λ w. one_or_all line (range_of t o w) xs w
library_member member.Size line t o xs = give_long (size_of t o)
library_member member.PushBack line t o xs = push_back line (kind_in t) (natural 0 o) (value_at 0 xs)
library_member member.Data line t o xs = gives o
library_member member.Join line t o xs = join line (natural 0 o)
library_member member.Code line t o xs = gives o
library_member member.Get line t o xs = one_or_all line (extents_of t o) xs
library_member m line t o xs = item_member m line xs

-- ---- barriers and group functions: a new phase begins ("Group functions", "Group algorithms library")

abbrev pub phase_from : List Store → World → World
phase_from [] w = record w { steps = [] }
phase_from (s ∷ ss) w = record w { store = s; later = ss; steps = [] }

abbrev pub next_phase : World → World
next_phase w = phase_from w.later w

-- the column and the line together are the place in the source
abbrev pub barrier : Spot → Op
barrier at w = for_done (ask at.line (asks.Barrier at.column at.line) w) (λ w. gives nothing (next_phase w))

abbrev pub collect : Spot → Form → RedOp → Kind → ℤ → Op
collect at f op k z w =
    for_contents (ask at.line (asks.Collect at.column at.line (record { form = f; op = op; kind = k; num = z })) w) (λ zs w. gives (taken_as k (word 0 zs)) (next_phase w))

-- the item whose value every item gets is one of the group
abbrev pub broadcast : Spot → Kind → ℤ → ℕ → Op
broadcast at k z n w =
    if nat_lt n (product (local_range (position w)))
    then collect at (forms.Broadcast n) red.Plus k z w
    else traps cause.Index at.line w

-- the operator is told by an argument's type
abbrev pub operator_in : List Given → RedOp
operator_in [] = red.Plus
operator_in ((thing.FunctionObject f k, o) ∷ xs) = operator_of f
operator_in (x ∷ xs) = operator_in xs

-- of the group, the value, and the operator or the item's number
abbrev pub group_function : LibraryFunction → Spot → Kind → List Given → Op
group_function library.ReduceOverGroup at k xs = collect at forms.Reduce (operator_in xs) k (number_as k (value_at 1 xs))
group_function library.ExclusiveScanOverGroup at k xs = collect at forms.Exclusive (operator_in xs) k (number_as k (value_at 1 xs))
group_function library.InclusiveScanOverGroup at k xs = collect at forms.Inclusive (operator_in xs) k (number_as k (value_at 1 xs))
group_function library.GroupBroadcast at k xs = broadcast at k (number_as k (value_at 1 xs)) (count_of (value_at 2 xs))
group_function library.Reduction at k xs = gives nothing
