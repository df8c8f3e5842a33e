-- Each operation of the library leads on.
use Rattle.std.specs.Prelude.{Bool, List, None, Option, Some, [], ℕ, ℤ, ◌*◌, ◌+◌, ◌∷◌}
use Rattle.sy_access.specs.declared.access.Mode.{Mode}
use Rattle.sy_access.specs.declared.devices.Device.{Device}
use Rattle.sy_note.specs.declared.Spot.{Spot}
use Rattle.sy_num.specs.Scalars.{Scalar}
use Rattle.sy_num.specs.declared.Kind.{Kind}
use Rattle.sy_range.specs.LinearIds.{product}
use Rattle.sy_tree.specs.declared.parts.LibraryFunction.{LibraryFunction}
use Rattle.sy_tree.specs.declared.parts.LibraryFunction.TheVariants as library
use Rattle.sy_typed.specs.declared.things.Member.{Member}
use Rattle.sy_typed.specs.declared.things.Member.TheVariants as member
use Rattle.sy_typed.specs.declared.things.Thing.{Thing}
use Rattle.sy_typed.specs.declared.things.Thing.TheVariants as thing
use Rattle.sy_work.specs.declared.asks.Errc.{Errc}
use Rattle.sy_work.specs.declared.commands.Command.{Command}
use Rattle.sy_work.specs.declared.commands.Form.{Form}
use Rattle.sy_work.specs.declared.commands.RedOp.{RedOp}
use Rattle.sy_meaning.specs.declared.runs.Area.{Area}
use Rattle.sy_meaning.specs.declared.runs.Area.TheVariants as areas
use Rattle.sy_meaning.specs.declared.runs.Group.{Group}
use Rattle.sy_meaning.specs.declared.runs.Live.{Live}
use Rattle.sy_meaning.specs.declared.runs.Row.{Row}
use Rattle.sy_meaning.specs.declared.runs.Store.{Store}
use Rattle.sy_meaning.specs.declared.runs.World.{World}
use Rattle.sy_meaning.specs.Words.{Object}
use Rattle.sy_meaning.specs.Expressions.{Lambda}
use Rattle.sy_meaning.specs.Outcomes.{Op}
use Rattle.sy_meaning.specs.Locations.{coordinate, device_in, index_accessor, index_into, picked, read_area, read_element, replaced, thread_in, with_row, write_area, write_element}
use Rattle.sy_meaning.specs.Making.{Given, kept, make, make_accessor, make_buffer, make_context, make_host, make_local, make_over, make_over_all, make_plain, make_queue, make_sub, make_team, make_temporary, make_vector, over_row, queue_in, queue_over, queue_with}
use Rattle.sy_meaning.specs.Library.{barrier, broadcast, collect, group_function, group_or_coordinate, item_member, join, library_member, one_or_all, partitioned, phase_from, push_back, wait, wait_and_throw}
use Rattle.sy_meaning.specs.Lambdas.{commanded, copy, fill, make_reduction, parallel_for, sent, single_task, spawned}
use Rattle.sy_meaning.specs.Statements.{prints}
use Rattle.sy_meaning.specs.Meaning.{library_call}
use Rattle.sy_meaning.specs.Turns.{Leads, OpLeads}
use Rattle.sy_meaning.proofs.OutcomeLemmas.{asking, chosen, goes_world, halted, numbered, same, throwing, when_done, with_contents}

-- what an operation is put together of
ruleset parts = (chosen, numbered, asking, same, throwing, with_contents, when_done, halted)

-- ---- vectors and elements

with_row_leads : (line v : ℕ) (go : Row → Op) → ((row : Row) → OpLeads (go row)) → OpLeads (with_row line v go)
with_row_leads line v go h w = search (parts, h)

picked_leads : (line : ℕ) (k : Kind) (o : Option ℤ) → OpLeads (picked line k o)
picked_leads line k None w = halted
picked_leads line k (Some z) w = same

pub read_element_leads : (line : ℕ) (k : Kind) (v i : ℕ) → OpLeads (read_element line k v i)
read_element_leads line k v i w = search (parts, with_row_leads, picked_leads)

replaced_leads : (line v i : ℕ) (s : Scalar) (row : Row) → OpLeads (replaced line v i s row)
replaced_leads line v i s row w = search (parts)

pub write_element_leads : (line v i : ℕ) (s : Scalar) → OpLeads (write_element line v i s)
write_element_leads line v i s = with_row_leads line v (replaced line v i s) (replaced_leads line v i s)

pub read_area_leads : (line : ℕ) (k : Kind) (a : Area) (n i : ℕ) → OpLeads (read_area line k a n i)
read_area_leads line k areas.Root n i w = same
read_area_leads line k areas.Local n i w = same
read_area_leads line k areas.Access n i w = same

pub write_area_leads : (line : ℕ) (a : Area) (n i : ℕ) (s : Scalar) → OpLeads (write_area line a n i s)
write_area_leads line areas.Root n i s w = same
write_area_leads line areas.Local n i s w = same
write_area_leads line areas.Access n i s w = same

index_accessor_leads : (line owner first : ℕ) (es is : List ℕ) → OpLeads (index_accessor line owner first es is)
index_accessor_leads line owner first es [] w = same
index_accessor_leads line owner first [] (i ∷ is) w = same
index_accessor_leads line owner first (e ∷ es) (i ∷ is) w =
    let further = index_accessor_leads line owner (first + i * product es) es is in
    search (parts, further)

coordinate_leads : (line : ℕ) (o : Option ℕ) → OpLeads (coordinate line o)
coordinate_leads line None w = halted
coordinate_leads line (Some n) w = same

thread_in_leads : (line : ℕ) (o : Option ℤ) → OpLeads (thread_in line o)
thread_in_leads line None w = halted
thread_in_leads line (Some t) w = same

device_in_leads : (line : ℕ) (o : Object) (k : ℕ) → OpLeads (device_in line o k)
device_in_leads line o k w = search (parts)

pub index_leads : (line : ℕ) (t u : Thing) (o i : Object) → OpLeads (index_into line t u o i)
index_leads line (thing.Vector k) u o i w = same
index_leads line thing.ThreadVector u o i w = search (parts, thread_in_leads)
index_leads line thing.DeviceVector u o i w = search (parts, device_in_leads)
index_leads line (thing.Range d) u o i w = search (parts, coordinate_leads)
index_leads line (thing.Id d) u o i w = search (parts, coordinate_leads)
index_leads line (thing.Item d) u o i w = search (parts, coordinate_leads)
index_leads line t u o i w = search (parts, index_accessor_leads)

-- ---- making

pub vector_leads : (zs : List ℤ) → OpLeads (make_vector zs)
vector_leads zs w = search (parts)

pub team_leads : OpLeads make_team
team_leads w = same

plain_leads : (line : ℕ) (k : Kind) (es : List ℕ) → OpLeads (make_plain line k es)
plain_leads line k es w = search (parts)

over_row_leads : (line : ℕ) (k : Kind) (v : ℕ) (es : List ℕ) (row : Row) → OpLeads (over_row line k v es row)
over_row_leads line k v es row w = search (parts)

over_leads : (line : ℕ) (k : Kind) (v : ℕ) (es : List ℕ) → OpLeads (make_over line k v es)
over_leads line k v es = with_row_leads line v (over_row line k v es) (over_row_leads line k v es)

over_all_leads : (line : ℕ) (k : Kind) (v : ℕ) → OpLeads (make_over_all line k v)
over_all_leads line k v w = search (parts, with_row_leads, over_row_leads)

sub_leads : (line : ℕ) (o : Object) (base es : List ℕ) → OpLeads (make_sub line o base es)
sub_leads line o base es w = search (parts)

buffer_leads : (line : ℕ) (k : Kind) (t : Thing) (xs : List Given) → OpLeads (make_buffer line k t xs)
buffer_leads line k (thing.Vector j) xs w = search (parts, over_all_leads)
buffer_leads line k (thing.Data j) xs w = search (parts, over_leads)
buffer_leads line k (thing.Buffer j d) xs w = search (parts, sub_leads)
buffer_leads line k t xs w = search (parts, plain_leads)

accessor_leads : (line : ℕ) (m : Mode) (no_init : Bool) (o : Object) → OpLeads (make_accessor line m no_init o)
accessor_leads line m no_init o w = search (parts)

local_leads : (line : ℕ) (es : List ℕ) → OpLeads (make_local line es)
local_leads line es w = search (parts)

host_leads : (line : ℕ) (m : Mode) (no_init : Bool) (o : Object) → OpLeads (make_host line m no_init o)
host_leads line m no_init o w = search (parts)

context_leads : (line : ℕ) (d : Device) → OpLeads (make_context line d)
context_leads line d w = search (parts)

queue_in_leads : (line : ℕ) (in_order : Bool) (d : Device) (place : ℕ) → OpLeads (queue_in line in_order d place)
queue_in_leads line in_order d place w = search (parts)

queue_over_leads : (line : ℕ) (in_order : Bool) (d : Device) → OpLeads (queue_over line in_order d)
queue_over_leads line in_order d w = search (parts, queue_in_leads)

queue_with_leads : (line : ℕ) (in_order : Bool) (c : Object) (d : Device) → OpLeads (queue_with line in_order c d)
queue_with_leads line in_order c d w = search (parts, queue_in_leads)

queue_leads : (line : ℕ) (in_order : Bool) (t : Thing) (xs : List Given) → OpLeads (make_queue line in_order t xs)
queue_leads line in_order thing.Context xs w = search (parts, queue_with_leads)
queue_leads line in_order thing.Device xs w = search (parts, queue_over_leads)
queue_leads line in_order t xs w = search (parts, queue_over_leads)

pub make_leads : (t : Thing) (line : ℕ) (xs : List Given) → OpLeads (make t line xs)
make_leads (thing.Range d) line xs w = same
make_leads (thing.Id d) line xs w = same
make_leads (thing.NdRange d) line xs w = same
make_leads thing.Device line xs w = same
make_leads thing.Context line xs w = search (parts, context_leads)
make_leads thing.Queue line xs w = search (parts, queue_leads)
make_leads (thing.Buffer k d) line xs w = search (parts, buffer_leads)
make_leads (thing.Accessor k d m) line xs w = search (parts, accessor_leads)
make_leads (thing.HostAccessor k d m) line xs w = search (parts, host_leads)
make_leads (thing.LocalAccessor k d) line xs w = search (parts, local_leads)
make_leads t line xs w = same

pub kept_leads : (o : Option Live) (w : World) → Leads w (kept o w)
kept_leads None w = same
kept_leads (Some x) w = same

pub temporary_leads : (t : Thing) (line : ℕ) (xs : List Given) → OpLeads (make_temporary t line xs)
temporary_leads t line xs w = search (goes_world, make_leads, kept_leads)

-- ---- members and functions

one_or_all_leads : (line : ℕ) (is : List ℕ) (xs : List Given) → OpLeads (one_or_all line is xs)
one_or_all_leads line is [] w = same
one_or_all_leads line is (x ∷ xs) w = search (parts, coordinate_leads)

partitioned_leads : (line : ℕ) (d : Device) (n : ℕ) → OpLeads (partitioned line d n)
partitioned_leads line d n w = search (parts)

push_back_leads : (line : ℕ) (k : Kind) (v : ℕ) (o : Object) → OpLeads (push_back line k v o)
push_back_leads line k v o w = search (parts, with_row_leads)

join_leads : (line t : ℕ) → OpLeads (join line t)
join_leads line t w = search (parts)

wait_leads : (line : ℕ) (t : Thing) (o : Object) → OpLeads (wait line t o)
wait_leads line thing.Queue o w = search parts
wait_leads line t o w = search parts

wait_and_throw_leads : (line : ℕ) (o : Object) → OpLeads (wait_and_throw line o)
wait_and_throw_leads line o w = search (parts)

group_coordinate_leads : (line : ℕ) (xs : List Given) → OpLeads (group_or_coordinate line xs)
group_coordinate_leads line [] w = same
group_coordinate_leads line (x ∷ xs) w = search (parts, coordinate_leads)

item_member_leads : (m : Member) (line : ℕ) (xs : List Given) → OpLeads (item_member m line xs)
item_member_leads member.GetId line xs w = search (parts, one_or_all_leads)
item_member_leads member.GetGlobalId line xs w = search (parts, one_or_all_leads)
item_member_leads member.GetLocalId line xs w = search (parts, one_or_all_leads)
item_member_leads member.GetGlobalRange line xs w = search (parts, one_or_all_leads)
item_member_leads member.GetLocalRange line xs w = search (parts, one_or_all_leads)
item_member_leads member.GetGroupRange line xs w = search (parts, one_or_all_leads)
item_member_leads member.GetGroup line xs w = group_coordinate_leads line xs w
item_member_leads m line xs w = same

pub member_leads : (m : Member) (line : ℕ) (t : Thing) (o : Object) (xs : List Given) → OpLeads (library_member m line t o xs)
member_leads member.Wait line t o xs w = wait_leads line t o w
member_leads member.WaitAndThrow line t o xs w = wait_and_throw_leads line o w
member_leads member.CreateSubDevices line t o xs w = search (parts, partitioned_leads)
member_leads member.GetRange line t o xs w = search (parts, one_or_all_leads)
member_leads member.PushBack line t o xs w = search (parts, push_back_leads)
member_leads member.Join line t o xs w = search (parts, join_leads)
member_leads member.Get line t o xs w = search (parts, one_or_all_leads)
member_leads member.GetDevice line t o xs w = same
member_leads member.MaxComputeUnits line t o xs w = same
member_leads member.Size line t o xs w = same
member_leads member.Data line t o xs w = same
member_leads member.Code line t o xs w = same
member_leads m line t o xs w = item_member_leads m line xs w

next_phase_leads : (ss : List Store) (w : World) → Leads w (phase_from ss w)
next_phase_leads [] w = same
next_phase_leads (s ∷ ss) w = same

pub barrier_leads : (at : Spot) → OpLeads (barrier at)
barrier_leads at w = search (parts, next_phase_leads)

collect_leads : (at : Spot) (f : Form) (op : RedOp) (k : Kind) (z : ℤ) → OpLeads (collect at f op k z)
collect_leads at f op k z w = search (parts, next_phase_leads)

broadcast_leads : (at : Spot) (k : Kind) (z : ℤ) (n : ℕ) → OpLeads (broadcast at k z n)
broadcast_leads at k z n w = search (parts, collect_leads)

group_function_leads : (f : LibraryFunction) (at : Spot) (k : Kind) (xs : List Given) → OpLeads (group_function f at k xs)
group_function_leads library.ReduceOverGroup at k xs w = search (parts, collect_leads)
group_function_leads library.ExclusiveScanOverGroup at k xs w = search (parts, collect_leads)
group_function_leads library.InclusiveScanOverGroup at k xs w = search (parts, collect_leads)
group_function_leads library.GroupBroadcast at k xs w = search (parts, broadcast_leads)
group_function_leads library.Reduction at k xs w = same

-- ---- threads and commands

pub spawned_leads : (line body : ℕ) (zs : List ℤ) → OpLeads (spawned line body zs)
spawned_leads line body zs w = search (parts)

commanded_leads : (line : ℕ) (e : Option Errc) (c : Command) → OpLeads (commanded line e c)
commanded_leads line (Some e) c w = throwing e line w
commanded_leads line None c w = same

pub single_task_leads : (limit line : ℕ) (l : Lambda) (os : List Object) → OpLeads (single_task limit line l os)
single_task_leads limit line l os w = search (parts, commanded_leads)

pub parallel_for_leads : (limit line : ℕ) (l : Lambda) (xs : List Given) (os : List Object) → OpLeads (parallel_for limit line l xs os)
parallel_for_leads limit line l xs os w = search (parts, commanded_leads)

pub fill_leads : (line : ℕ) (xs : List Given) → OpLeads (fill line xs)
fill_leads line xs w = search (parts, commanded_leads)

pub copy_leads : (line : ℕ) (xs : List Given) → OpLeads (copy line xs)
copy_leads line xs w = search (parts, commanded_leads)

reduction_leads : (line : ℕ) (xs : List Given) → OpLeads (make_reduction line xs)
reduction_leads line xs w = search (parts)

pub sent_leads : (line q : ℕ) (g : Group) (c : Option Command) → OpLeads (sent line q g c)
sent_leads line q g None w = search parts
sent_leads line q g (Some c) w = search parts

pub prints_leads : (line : ℕ) (bytes : List ℕ) → OpLeads (prints line bytes)
prints_leads line bytes w = search parts

pub library_call_leads : (f : LibraryFunction) (at : Spot) (t : Thing) (xs : List Given) → OpLeads (library_call f at t xs)
library_call_leads library.Reduction at t xs w = reduction_leads at.line xs w
library_call_leads f at t xs w = search (parts, group_function_leads)
