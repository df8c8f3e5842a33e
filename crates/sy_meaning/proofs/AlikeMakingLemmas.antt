-- Each operation of the library comes to the same with more answers.
use Rattle.std.proofs.Common.{ap, refl, subst, sym, ◌∙◌}
use Rattle.std.proofs.lemmas.List.{length-set}
use Rattle.std.specs.Prelude.{Bool, List, None, Option, Some, [], false, is_some, length, nat_lt, slice_set, take, true, ℕ, ℤ, ◌*◌, ◌++◌, ◌+◌, ◌∷◌, ◌≡◌}
use Rattle.sy_access.specs.declared.access.Mode.{Mode}
use Rattle.sy_access.specs.declared.devices.Device.{Device}
use Rattle.sy_note.specs.declared.Spot.{Spot}
use Rattle.sy_num.specs.Scalars.{Scalar}
use Rattle.sy_num.specs.declared.Kind.{Kind}
use Rattle.sy_range.specs.LinearIds.{product}
use Rattle.sy_tree.specs.declared.parts.LibraryFunction.{LibraryFunction}
use Rattle.sy_tree.specs.declared.parts.LibraryFunction.TheVariants as library
use Rattle.sy_typed.specs.declared.things.Member.{Member}
use Rattle.sy_typed.specs.declared.things.Member.TheVariants as member
use Rattle.sy_typed.specs.declared.things.Thing.{Thing}
use Rattle.sy_typed.specs.declared.things.Thing.TheVariants as thing
use Rattle.sy_work.specs.declared.asks.Ask.TheVariants as asks
use Rattle.sy_work.specs.declared.asks.Errc.{Errc}
use Rattle.sy_work.specs.declared.asks.Errc.TheVariants as errc
use Rattle.sy_work.specs.declared.endings.Cause.TheVariants as cause
use Rattle.sy_work.specs.declared.commands.Command.{Command}
use Rattle.sy_work.specs.declared.commands.Form.{Form}
use Rattle.sy_work.specs.declared.commands.RedOp.{RedOp}
use Rattle.sy_meaning.specs.declared.outcomes.Evaluated.{Evaluated}
use Rattle.sy_meaning.specs.declared.outcomes.Evaluated.TheVariants.{Gives, Stopped, Threw}
use Rattle.sy_meaning.specs.declared.runs.Area.{Area}
use Rattle.sy_meaning.specs.declared.runs.Area.TheVariants as areas
use Rattle.sy_meaning.specs.declared.runs.Group.{Group}
use Rattle.sy_meaning.specs.declared.runs.Live.{Live}
use Rattle.sy_meaning.specs.declared.runs.Live.TheVariants as live
use Rattle.sy_meaning.specs.declared.runs.Scope.{Scope}
use Rattle.sy_meaning.specs.declared.runs.Row.{Row}
use Rattle.sy_meaning.specs.declared.runs.Store.{Store}
use Rattle.sy_meaning.specs.declared.runs.World.{World}
use Rattle.sy_meaning.specs.Words.{Object, accessor_owner, buffer_extents, buffer_number, natural, naturals}
use Rattle.sy_meaning.specs.Expressions.{Lambda}
use Rattle.sy_meaning.specs.Asks.{Log}
use Rattle.sy_meaning.specs.Frame.{access_at, first_scope, lease, row_at, with_first}
use Rattle.sy_meaning.specs.Outcomes.{Op, and_then, ask, for_number, gives, throws, traps}
use Rattle.sy_meaning.specs.Locations.{coordinate, device_in, index_accessor, index_into, picked, read_area, read_element, replaced, thread_in, with_row, write_area, write_element}
use Rattle.sy_meaning.specs.Making.{Given, accessor, device_or_whole, first_of_region, has_type, is_in_order, is_no_init, is_region, kept, live_of, make, make_accessor, make_buffer, make_context, make_host, make_local, make_over, make_over_all, make_plain, make_queue, make_sub, make_team, make_temporary, make_vector, need_of, over_row, queue_in, queue_over, queue_with, range_at, root_buffer, sub_buffer, type_at, value_at}
use Rattle.sy_meaning.specs.Library.{barrier, broadcast, collect, group_function, group_or_coordinate, item_member, join, library_member, one_or_all, partitioned, phase_from, push_back, range_of, size_of, wait, wait_and_throw}
use Rattle.sy_meaning.specs.Lambdas.{commanded, copy, depends_on, fill, given_at, kernel, make_reduction, parallel_for, put_thread, range_error, ranged, sent, single_task, spawned}
use Rattle.sy_meaning.specs.Statements.{prints}
use Rattle.sy_meaning.specs.Meaning.{library_call}
use Rattle.sy_meaning.proofs.AlikeLemmas.{Alike, Bound, Fine, FineAt, OpAlike, Tracks, alike, asks_contents, asks_done, asks_number, chosen, cut, gave_world, halted_world, held, longer, makes_number, making_world, objects, opens, operated, standing, throwing, throwing_made, trapping_made}

-- what an operation is put together of
ruleset parts = (chosen, asks_number, asks_contents, asks_done, gave_world, throwing, halted_world)

-- ---- vectors and elements

with_row_alike : {beyond : Bound} (line v : ℕ) (go : Row → Op) → ((row : Row) → OpAlike beyond (go row) (go row)) → OpAlike beyond (with_row line v go) (with_row line v go)
with_row_alike line v go p w h = search (parts, p)

picked_alike : {beyond : Bound} (line : ℕ) (k : Kind) (o : Option ℤ) → OpAlike beyond (picked line k o) (picked line k o)
picked_alike line k None w h = halted_world h
picked_alike line k (Some z) w h = gave_world h

pub read_element_alike : {beyond : Bound} (line : ℕ) (k : Kind) (v i : ℕ) → OpAlike beyond (read_element line k v i) (read_element line k v i)
read_element_alike line k v i w h = search (parts, with_row_alike, picked_alike)

replaced_alike : {beyond : Bound} (line v i : ℕ) (s : Scalar) (row : Row) → OpAlike beyond (replaced line v i s row) (replaced line v i s row)
replaced_alike line v i s row w h = search (parts)

pub write_element_alike : {beyond : Bound} (line v i : ℕ) (s : Scalar) → OpAlike beyond (write_element line v i s) (write_element line v i s)
write_element_alike line v i s = with_row_alike line v (replaced line v i s) (replaced_alike line v i s)

pub read_area_alike : {beyond : Bound} (line : ℕ) (k : Kind) (a : Area) (n i : ℕ) → OpAlike beyond (read_area line k a n i) (read_area line k a n i)
read_area_alike line k areas.Root n i w h = gave_world h
read_area_alike line k areas.Local n i w h = gave_world h
read_area_alike line k areas.Access n i w h = gave_world h

pub write_area_alike : {beyond : Bound} (line : ℕ) (a : Area) (n i : ℕ) (s : Scalar) → OpAlike beyond (write_area line a n i s) (write_area line a n i s)
write_area_alike line areas.Root n i s w h = gave_world h
write_area_alike line areas.Local n i s w h = gave_world h
write_area_alike {beyond} line areas.Access n i s w h =
    gave_world (h.0, subst (λ m. Tracks beyond.tracked None [] w.asked w.scopes m) (sym (length-set w.accesses n (slice_set (access_at n w) i s.num))) h.1)

index_accessor_alike : {beyond : Bound} (line owner first : ℕ) (es is : List ℕ) → OpAlike beyond (index_accessor line owner first es is) (index_accessor line owner first es is)
index_accessor_alike line owner first es [] w h = gave_world h
index_accessor_alike line owner first [] (i ∷ is) w h = gave_world h
index_accessor_alike {beyond} line owner first (e ∷ es) (i ∷ is) w h =
    chosen (nat_lt i e) (index_accessor line owner (first + i * product es) es is w) (traps cause.Index line w) (index_accessor line owner (first + i * product es) es is (longer beyond w)) (traps cause.Index line (longer beyond w)) (index_accessor_alike line owner (first + i * product es) es is w h) (halted_world h)

coordinate_alike : {beyond : Bound} (line : ℕ) (o : Option ℕ) → OpAlike beyond (coordinate line o) (coordinate line o)
coordinate_alike line None w h = halted_world h
coordinate_alike line (Some n) w h = gave_world h

thread_in_alike : {beyond : Bound} (line : ℕ) (o : Option ℤ) → OpAlike beyond (thread_in line o) (thread_in line o)
thread_in_alike line None w h = halted_world h
thread_in_alike line (Some t) w h = gave_world h

device_in_alike : {beyond : Bound} (line : ℕ) (o : Object) (k : ℕ) → OpAlike beyond (device_in line o k) (device_in line o k)
device_in_alike line o k w h = search (parts)

pub index_alike : {beyond : Bound} (line : ℕ) (t u : Thing) (o i : Object) → OpAlike beyond (index_into line t u o i) (index_into line t u o i)
index_alike line (thing.Vector k) u o i w h = gave_world h
index_alike line thing.ThreadVector u o i w h = search (parts, thread_in_alike)
index_alike line thing.DeviceVector u o i w h = search (parts, device_in_alike)
index_alike line (thing.Range d) u o i w h = search (parts, coordinate_alike)
index_alike line (thing.Id d) u o i w h = search (parts, coordinate_alike)
index_alike line (thing.Item d) u o i w h = search (parts, coordinate_alike)
index_alike line t u o i w h = search (parts, index_accessor_alike)

-- ---- making

pub vector_alike : {beyond : Bound} (zs : List ℤ) → OpAlike beyond (make_vector zs) (make_vector zs)
vector_alike zs w h = search (parts)

pub team_alike : {beyond : Bound} → OpAlike beyond make_team make_team
team_alike w h = gave_world h

-- what a value of the type is, that has been made and stands in no scope yet
abbrev pub left_of : Thing → Object → Option Live
left_of (thing.Buffer k d) o = Some (live.Buffer (buffer_number o))
left_of (thing.HostAccessor k d m) o = Some (live.Access (accessor_owner o))
left_of t o = None

abbrev as_buffer : Object → Option Live
as_buffer o = Some (live.Buffer (buffer_number o))

abbrev MakesAlike : Bound → (Object → Option Live) → Op → Type 0
MakesAlike k made f = (w : World) → Fine k w → Alike k (making_world made) (f w) (f (longer k w))

plain_alike : {beyond : Bound} (line : ℕ) (k : Kind) (es : List ℕ) → MakesAlike beyond as_buffer (make_plain line k es)
plain_alike line k es w h =
    makes_number line (asks.MakeBuffer (record { kind = k; range = es; init = None })) w as_buffer (λ n. gives (root_buffer n es)) (λ n. gives (root_buffer n es)) tt tt h (λ n v f. alike refl f)

with_row_made : {beyond : Bound} (made : Object → Option Live) (line v : ℕ) (go : Row → Op) → ((row : Row) → MakesAlike beyond made (go row)) → MakesAlike beyond made (with_row line v go)
with_row_made {beyond} made line v go p w h =
    chosen (is_some (row_at v w).leased) (traps cause.Leased line w) (go (row_at v w) w) (traps cause.Leased line (longer beyond w)) (go (row_at v w) (longer beyond w)) (trapping_made made cause.Leased line w h) (p (row_at v w) w h)

over_row_alike : {beyond : Bound} (line : ℕ) (k : Kind) (v : ℕ) (es : List ℕ) (row : Row) → MakesAlike beyond as_buffer (over_row line k v es row)
over_row_alike {beyond} line k v es row w h =
    let q = asks.MakeBuffer (record { kind = k; range = es; init = Some (take (product es) row.values) }) in
    let go : ℕ → Op = λ n w. gives (root_buffer n es) (lease n v w) in
    chosen (nat_lt (length row.values) (product es)) (traps cause.Index line w) (for_number line (ask line q w) go) (traps cause.Index line (longer beyond w)) (for_number line (ask line q (longer beyond w)) go) (trapping_made as_buffer cause.Index line w h) (makes_number line q w as_buffer go go tt tt h (λ n v f. alike refl f))

over_alike : {beyond : Bound} (line : ℕ) (k : Kind) (v : ℕ) (es : List ℕ) → MakesAlike beyond as_buffer (make_over line k v es)
over_alike line k v es = with_row_made as_buffer line v (over_row line k v es) (over_row_alike line k v es)

over_all_alike : {beyond : Bound} (line : ℕ) (k : Kind) (v : ℕ) → MakesAlike beyond as_buffer (make_over_all line k v)
over_all_alike line k v =
    with_row_made as_buffer line v (λ row. over_row line k v (length row.values ∷ []) row) (λ row. over_row_alike line k v (length row.values ∷ []) row)

sub_alike : {beyond : Bound} (line : ℕ) (o : Object) (base es : List ℕ) → MakesAlike beyond as_buffer (make_sub line o base es)
sub_alike {beyond} line o base es w h =
    let first = first_of_region base es (buffer_extents o) in
    let q = asks.MakeSub (buffer_number o) first es in
    let go : ℕ → Op = λ n. gives (sub_buffer o n first es) in
    chosen (is_region o base es) (for_number line (ask line q w) go) (throws errc.Invalid line w) (for_number line (ask line q (longer beyond w)) go) (throws errc.Invalid line (longer beyond w)) (makes_number line q w as_buffer go go tt tt h (λ n v f. alike refl f)) (throwing_made as_buffer errc.Invalid line w h)

buffer_alike : {beyond : Bound} (line : ℕ) (k : Kind) (t : Thing) (xs : List Given) → MakesAlike beyond as_buffer (make_buffer line k t xs)
buffer_alike line k (thing.Vector j) xs = over_all_alike line k (natural 0 (value_at 0 xs))
buffer_alike line k (thing.Data j) xs = over_alike line k (natural 0 (value_at 0 xs)) (range_at 1 xs)
buffer_alike line k (thing.Buffer j d) xs = sub_alike line (value_at 0 xs) (naturals 0 (value_at 1 xs)) (range_at 2 xs)
buffer_alike line k t xs = plain_alike line k (range_at 0 xs)

accessor_alike : {beyond : Bound} (line : ℕ) (m : Mode) (no_init : Bool) (o : Object) → OpAlike beyond (make_accessor line m no_init o) (make_accessor line m no_init o)
accessor_alike line m no_init o w h = search (parts)

local_alike : {beyond : Bound} (line : ℕ) (es : List ℕ) → OpAlike beyond (make_local line es) (make_local line es)
local_alike line es w h = search (parts)

abbrev as_access : Object → Option Live
as_access o = Some (live.Access (accessor_owner o))

host_alike : {beyond : Bound} (line : ℕ) (m : Mode) (no_init : Bool) (o : Object) → MakesAlike beyond as_access (make_host line m no_init o)
host_alike line m no_init o w h =
    opens as_access line (need_of o m no_init) w (λ zs v. accessor (length v.accesses) 0 (buffer_extents o)) (λ zs v. refl) (λ zs v. refl) h

context_alike : {beyond : Bound} (line : ℕ) (d : Device) → OpAlike beyond (make_context line d) (make_context line d)
context_alike line d w h = search (parts)

queue_in_alike : {beyond : Bound} (line : ℕ) (in_order : Bool) (d : Device) (place : ℕ) → OpAlike beyond (queue_in line in_order d place) (queue_in line in_order d place)
queue_in_alike line in_order d place w h = search (parts)

queue_over_alike : {beyond : Bound} (line : ℕ) (in_order : Bool) (d : Device) → OpAlike beyond (queue_over line in_order d) (queue_over line in_order d)
queue_over_alike line in_order d w h = search (parts, queue_in_alike)

queue_with_alike : {beyond : Bound} (line : ℕ) (in_order : Bool) (c : Object) (d : Device) → OpAlike beyond (queue_with line in_order c d) (queue_with line in_order c d)
queue_with_alike line in_order c d w h = search (parts, queue_in_alike)

queue_alike : {beyond : Bound} (line : ℕ) (in_order : Bool) (t : Thing) (xs : List Given) → OpAlike beyond (make_queue line in_order t xs) (make_queue line in_order t xs)
queue_alike line in_order thing.Context xs w h = search (parts, queue_with_alike)
queue_alike line in_order thing.Device xs w h = search (parts, queue_over_alike)
queue_alike line in_order t xs w h = search (parts, queue_over_alike)

pub make_alike : {beyond : Bound} (t : Thing) (line : ℕ) (xs : List Given) → MakesAlike beyond (left_of t) (make t line xs)
make_alike (thing.Range d) line xs w h = gave_world h
make_alike (thing.Id d) line xs w h = gave_world h
make_alike (thing.NdRange d) line xs w h = gave_world h
make_alike thing.Device line xs w h = gave_world h
make_alike thing.Context line xs w h = context_alike line (device_or_whole (type_at 0 xs) (value_at 0 xs)) w h
make_alike thing.Queue line xs w h = queue_alike line (has_type is_in_order xs) (type_at 0 xs) xs w h
make_alike (thing.Buffer k d) line xs w h = buffer_alike line k (type_at 0 xs) xs w h
make_alike (thing.Accessor k d m) line xs w h = accessor_alike line m (has_type is_no_init xs) (value_at 0 xs) w h
make_alike (thing.HostAccessor k d m) line xs w h = host_alike line m (has_type is_no_init xs) (value_at 0 xs) w h
make_alike (thing.LocalAccessor k d) line xs w h = local_alike line (range_at 0 xs) w h
make_alike t line xs w h = gave_world h

-- what is to be ended, as far as it is looked at
abbrev objects_of : Option Live → List Live
objects_of None = []
objects_of (Some x) = objects (x ∷ [])

left_is : (t : Thing) (o : Object) → held (left_of t o) ≡ objects_of (live_of t o)
left_is (thing.Buffer k d) o = refl
left_is (thing.HostAccessor k d m) o = refl
left_is (thing.Vector k) o = refl
left_is thing.ThreadVector o = refl
left_is thing.Thread o = refl
left_is t o = refl

lives_stands : (x : Live) (ss : List Scope) → standing (with_first (x ∷ first_scope ss) ss) ≡ objects (x ∷ []) ++ standing ss
lives_stands (live.Buffer b) [] = refl
lives_stands (live.Access a) [] = refl
lives_stands (live.Row v) [] = refl
lives_stands (live.Team v) [] = refl
lives_stands (live.Thread t) [] = refl
lives_stands (live.Buffer b) (s ∷ ss) = refl
lives_stands (live.Access a) (s ∷ ss) = refl
lives_stands (live.Row v) (s ∷ ss) = refl
lives_stands (live.Team v) (s ∷ ss) = refl
lives_stands (live.Thread t) (s ∷ ss) = refl

kept_tracks : (c : Bool) (p : Option Live) (os : List Live) (log : Log) (old new : List Scope) (n : ℕ) → held p ≡ os → standing new ≡ os ++ standing old → Tracks c p [] log old n → Tracks c None [] log new n
kept_tracks false p os log old new n e f h = tt
kept_tracks true p os log old new n e f h = (h.0 ∙ (ap (λ ys. ys ++ standing old) e ∙ sym f), h.1, h.2, tt)

-- what has been made stands in the innermost scope
pub kept_fine : (k : Bound) (l p : Option Live) (w : World) → held p ≡ objects_of l → FineAt k p [] w → Fine k (kept l w)
kept_fine k None p w e h = (h.0, kept_tracks k.tracked p [] w.asked w.scopes w.scopes (length w.accesses) e refl h.1)
kept_fine k (Some x) p w e h =
    (h.0, kept_tracks k.tracked p (objects (x ∷ [])) w.asked w.scopes (with_first (x ∷ first_scope w.scopes) w.scopes) (length w.accesses) e (lives_stands x w.scopes) h.1)

pub kept_left : (k : Bound) (t : Thing) (o : Object) (w : World) → FineAt k (left_of t o) [] w → Fine k (kept (live_of t o) w)
kept_left k t o w h = kept_fine k (live_of t o) (left_of t o) w (left_is t o) h

pub kept_longer : (k : Bound) (l : Option Live) (w : World) → longer k (kept l w) ≡ kept l (longer k w)
kept_longer k None w = refl
kept_longer k (Some x) w = refl

goes_kept : {k : Bound} (t : Thing) (a b : Evaluated × World) → Alike k (making_world (left_of t)) a b → Alike k operated (and_then a (λ o w. gives o (kept (live_of t o) w))) (and_then b (λ o w. gives o (kept (live_of t o) w)))
goes_kept {k} t (Gives o, w) b (cut v l) = absurd v
goes_kept {k} t (Gives o, w) b (alike e h) =
    let gave_it : World → Evaluated × World = λ v. (Gives o, v) in
    alike (ap gave_it (kept_longer k (live_of t o) w) ∙ ap (λ c. and_then c (λ o w. gives o (kept (live_of t o) w))) e) (kept_left k t o w h)
goes_kept {k} t (Threw x l, w) b (cut v _) = absurd v
goes_kept {k} t (Threw x l, w) b (alike e h) = alike (ap (λ c. and_then c (λ o w. gives o (kept (live_of t o) w))) e) h
goes_kept {k} t (Stopped a, w) b (cut v l) = cut v l
goes_kept {k} t (Stopped a, w) b (alike e h) = alike (ap (λ c. and_then c (λ o w. gives o (kept (live_of t o) w))) e) h

pub temporary_alike : {beyond : Bound} (t : Thing) (line : ℕ) (xs : List Given) → OpAlike beyond (make_temporary t line xs) (make_temporary t line xs)
temporary_alike {beyond} t line xs w h = goes_kept t (make t line xs w) (make t line xs (longer beyond w)) (make_alike t line xs w h)

-- ---- members and functions

one_or_all_alike : {beyond : Bound} (line : ℕ) (is : List ℕ) (xs : List Given) → OpAlike beyond (one_or_all line is xs) (one_or_all line is xs)
one_or_all_alike line is [] w h = gave_world h
one_or_all_alike line is (x ∷ xs) w h = search (parts, coordinate_alike)

partitioned_alike : {beyond : Bound} (line : ℕ) (d : Device) (n : ℕ) → OpAlike beyond (partitioned line d n) (partitioned line d n)
partitioned_alike line d n w h = search (parts)

push_back_alike : {beyond : Bound} (line : ℕ) (k : Kind) (v : ℕ) (o : Object) → OpAlike beyond (push_back line k v o) (push_back line k v o)
push_back_alike line k v o w h = search (parts, with_row_alike)

join_alike : {beyond : Bound} (line t : ℕ) → OpAlike beyond (join line t) (join line t)
join_alike line t w h = search (parts)

wait_alike : {beyond : Bound} (line : ℕ) (t : Thing) (o : Object) → OpAlike beyond (wait line t o) (wait line t o)
wait_alike line thing.Queue o w h = search parts
wait_alike line t o w h = search parts

wait_and_throw_alike : {beyond : Bound} (line : ℕ) (o : Object) → OpAlike beyond (wait_and_throw line o) (wait_and_throw line o)
wait_and_throw_alike line o w h = search (parts)

group_coordinate_alike : {beyond : Bound} (line : ℕ) (xs : List Given) → OpAlike beyond (group_or_coordinate line xs) (group_or_coordinate line xs)
group_coordinate_alike line [] w h = gave_world h
group_coordinate_alike line (x ∷ xs) w h = search (parts, coordinate_alike)

item_member_alike : {beyond : Bound} (m : Member) (line : ℕ) (xs : List Given) → OpAlike beyond (item_member m line xs) (item_member m line xs)
item_member_alike member.GetId line xs w h = search (parts, one_or_all_alike)
item_member_alike member.GetGlobalId line xs w h = search (parts, one_or_all_alike)
item_member_alike member.GetLocalId line xs w h = search (parts, one_or_all_alike)
item_member_alike member.GetGlobalRange line xs w h = search (parts, one_or_all_alike)
item_member_alike member.GetLocalRange line xs w h = search (parts, one_or_all_alike)
item_member_alike member.GetGroupRange line xs w h = search (parts, one_or_all_alike)
item_member_alike member.GetGroup line xs w h = group_coordinate_alike line xs w h
item_member_alike m line xs w h = gave_world h

range_same : (beyond : Bound) (t : Thing) (o : Object) (w : World) → range_of t o (longer beyond w) ≡ range_of t o w
range_same beyond (thing.Item d) o w = refl
range_same beyond t o w = refl

pub size_same : (beyond : Bound) (t : Thing) (o : Object) (w : World) → size_of t o (longer beyond w) ≡ size_of t o w
size_same beyond (thing.Vector k) o w = refl
size_same beyond thing.ThreadVector o w = refl
size_same beyond thing.DeviceVector o w = refl
size_same beyond t o w = refl

pub member_alike : {beyond : Bound} (m : Member) (line : ℕ) (t : Thing) (o : Object) (xs : List Given) → OpAlike beyond (library_member m line t o xs) (library_member m line t o xs)
member_alike member.Wait line t o xs w h = wait_alike line t o w h
member_alike member.WaitAndThrow line t o xs w h = wait_and_throw_alike line o w h
member_alike member.CreateSubDevices line t o xs w h = search (parts, partitioned_alike)
member_alike {beyond} member.GetRange line t o xs w h = rw (range_same beyond t o w) (one_or_all_alike line (range_of t o w) xs w h)
member_alike member.PushBack line t o xs w h = search (parts, push_back_alike)
member_alike member.Join line t o xs w h = search (parts, join_alike)
member_alike member.Get line t o xs w h = search (parts, one_or_all_alike)
member_alike member.GetDevice line t o xs w h = gave_world h
member_alike member.MaxComputeUnits line t o xs w h = gave_world h
member_alike {beyond} member.Size line t o xs w h = rw (size_same beyond t o w) (gave_world h)
member_alike member.Data line t o xs w h = gave_world h
member_alike member.Code line t o xs w h = gave_world h
member_alike m line t o xs w h = item_member_alike m line xs w h

next_phase_alike : {beyond : Bound} (ss : List Store) (o : Object) (w : World) → Fine beyond w → Alike beyond operated (Gives o, phase_from ss w) (Gives o, phase_from ss (longer beyond w))
next_phase_alike [] o w h = gave_world h
next_phase_alike (s ∷ ss) o w h = gave_world h

pub barrier_alike : {beyond : Bound} (at : Spot) → OpAlike beyond (barrier at) (barrier at)
barrier_alike at w h = search (parts, next_phase_alike)

collect_alike : {beyond : Bound} (at : Spot) (f : Form) (op : RedOp) (k : Kind) (z : ℤ) → OpAlike beyond (collect at f op k z) (collect at f op k z)
collect_alike at f op k z w h = search (parts, next_phase_alike)

broadcast_alike : {beyond : Bound} (at : Spot) (k : Kind) (z : ℤ) (n : ℕ) → OpAlike beyond (broadcast at k z n) (broadcast at k z n)
broadcast_alike at k z n w h = search (parts, collect_alike)

group_function_alike : {beyond : Bound} (f : LibraryFunction) (at : Spot) (k : Kind) (xs : List Given) → OpAlike beyond (group_function f at k xs) (group_function f at k xs)
group_function_alike library.ReduceOverGroup at k xs w h = search (parts, collect_alike)
group_function_alike library.ExclusiveScanOverGroup at k xs w h = search (parts, collect_alike)
group_function_alike library.InclusiveScanOverGroup at k xs w h = search (parts, collect_alike)
group_function_alike library.GroupBroadcast at k xs w h = search (parts, broadcast_alike)
group_function_alike library.Reduction at k xs w h = gave_world h

-- ---- threads and commands

pub spawned_alike : {beyond : Bound} (line body : ℕ) (zs : List ℤ) → OpAlike beyond (spawned line body zs) (spawned line body zs)
spawned_alike line body zs w h = search (parts)

commanded_alike : {beyond : Bound} (line : ℕ) (e : Option Errc) (c : Command) → OpAlike beyond (commanded line e c) (commanded line e c)
commanded_alike line (Some e) c w h = throwing e line w h
commanded_alike line None c w h = gave_world h

pub single_task_alike : {beyond : Bound} (limit line : ℕ) (l : Lambda) (os : List Object) → OpAlike beyond (single_task limit line l os) (single_task limit line l os)
single_task_alike limit line l os w h = search (parts, commanded_alike)

error_same : (beyond : Bound) (t : Thing) (o : Object) (l : Lambda) (w : World) → range_error t o l (longer beyond w) ≡ range_error t o l w
error_same beyond (thing.NdRange d) o l w = refl
error_same beyond t o l w = refl

pub parallel_for_alike : {beyond : Bound} (limit line : ℕ) (l : Lambda) (xs : List Given) (os : List Object) → OpAlike beyond (parallel_for limit line l xs os) (parallel_for limit line l xs os)
parallel_for_alike {beyond} limit line l xs os w h =
    rw (error_same beyond (type_at 0 xs) (value_at 0 xs) l w) (commanded_alike line (range_error (type_at 0 xs) (value_at 0 xs) l w) (ranged line (given_at 0 xs) (given_at 1 xs) (kernel limit l os w)) w h)

pub fill_alike : {beyond : Bound} (line : ℕ) (xs : List Given) → OpAlike beyond (fill line xs) (fill line xs)
fill_alike line xs w h = search (parts, commanded_alike)

pub copy_alike : {beyond : Bound} (line : ℕ) (xs : List Given) → OpAlike beyond (copy line xs) (copy line xs)
copy_alike line xs w h = search (parts, commanded_alike)

reduction_alike : {beyond : Bound} (line : ℕ) (xs : List Given) → OpAlike beyond (make_reduction line xs) (make_reduction line xs)
reduction_alike line xs w h = search (parts)

pub sent_alike : {beyond : Bound} (line q : ℕ) (g : Group) (c : Option Command) → OpAlike beyond (sent line q g c) (sent line q g c)
sent_alike line q g None w h = search parts
sent_alike line q g (Some c) w h = search parts

pub prints_alike : {beyond : Bound} (line : ℕ) (bytes : List ℕ) → OpAlike beyond (prints line bytes) (prints line bytes)
prints_alike line bytes w h = search parts

pub library_call_alike : {beyond : Bound} (f : LibraryFunction) (at : Spot) (t : Thing) (xs : List Given) → OpAlike beyond (library_call f at t xs) (library_call f at t xs)
library_call_alike library.Reduction at t xs w h = reduction_alike at.line xs w h
library_call_alike f at t xs w h = search (parts, group_function_alike)

pub put_thread_alike : {beyond : Bound} (v : ℕ) (t : Object) → OpAlike beyond (put_thread v t) (put_thread v t)
put_thread_alike v t w h = gave_world h

pub depends_alike : {beyond : Bound} (o : Object) → OpAlike beyond (depends_on o) (depends_on o)
depends_alike o w h = gave_world h
