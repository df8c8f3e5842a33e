-- What one ask of a thread does.
use Rattle.std.specs.Prelude.{ℕ, suc, ◌+◌, ◌-◌, ◌^◌, ℤ, pos, Bool, true, false, not, ◌&&◌, ◌||◌, ◌==◌, nat_lt, nat_le, if◌then◌else◌, List, [], ◌∷◌, ◌++◌, length, map, replicate, sum_by, count_by, Option, Some, None, unwrap_or, slice_get, slice_index_or}
use Rattle.std.specs.List.{list_any, list_all}
use Rattle.sy_access.specs.declared.access.Need.{Need}
use Rattle.sy_access.specs.declared.access.Mode.TheVariants.{ReadWrite}
use Rattle.sy_access.specs.Needs.{writes, has_cell}
use Rattle.sy_range.specs.LinearIds.{product}
use Rattle.sy_work.specs.Programs.{Program, OutcomeOf}
use Rattle.sy_work.specs.declared.asks.Ask.{Ask}
use Rattle.sy_work.specs.declared.asks.Ask.TheVariants.{Print, MakeBuffer, MakeSub, EndBuffer, OpenHost, CloseHost, MakeContext, MakeQueue, Submit, WaitNode, WaitQueue, ThrowQueue, Spawn, Join, Finish, Halt as AskHalt, Barrier, Collect}
use Rattle.sy_work.specs.declared.asks.Answer.TheVariants.{Done as Answered, Number, Refused}
use Rattle.sy_work.specs.declared.asks.Errc.TheVariants.{Runtime, MemoryAllocation}
use Rattle.sy_work.specs.declared.asks.Why.TheVariants.{Threads}
use Rattle.sy_work.specs.declared.asks.Halt.{Halt}
use Rattle.sy_work.specs.declared.asks.Halt.TheVariants as halt
use Rattle.sy_work.specs.declared.asks.NewBuffer.{NewBuffer}
use Rattle.sy_work.specs.declared.asks.NewQueue.{NewQueue}
use Rattle.sy_work.specs.declared.asks.Submission.{Submission}
use Rattle.sy_work.specs.declared.commands.Command.{Command}
use Rattle.sy_work.specs.declared.commands.Command.TheVariants.{Single, Plain, Nd, Fill, Copy, Reduce}
use Rattle.sy_work.specs.declared.endings.KernelError.{KernelError}
use Rattle.sy_work.specs.declared.endings.Ending.{Ending}
use Rattle.sy_work.specs.declared.endings.Ending.TheVariants.{Terminated, KernelFailed, Trapped, TurnsSpent, OutputFull}
use Rattle.sy_onecopy.specs.declared.Buffer.{Buffer}
use Rattle.sy_onecopy.specs.declared.Origin.{Origin}
use Rattle.sy_onecopy.specs.declared.Origin.TheVariants.{Vector, Range, Part}
use Rattle.sy_onecopy.specs.declared.Queue.{Queue}
use Rattle.sy_onecopy.specs.declared.Entry.{Entry}
use Rattle.sy_onecopy.specs.declared.Work.{Work}
use Rattle.sy_onecopy.specs.declared.Work.TheVariants.{Node, Access, End}
use Rattle.sy_onecopy.specs.declared.Stage.{Stage}
use Rattle.sy_onecopy.specs.declared.Stage.TheVariants.{Pending, Granted, Done, Failed}
use Rattle.sy_onecopy.specs.declared.Waits.{Waits}
use Rattle.sy_onecopy.specs.declared.Waits.TheVariants.{Ready, Due, OnEntry, OnNode, OnQueue, OnThread, Never, Finished}
use Rattle.sy_onecopy.specs.Each.{changed_at}
use Rattle.sy_needs.specs.Each.{each_from}
use Rattle.sy_onecopy.specs.State.{Board, Thread, State, new_thread, next_ask}
use Rattle.sy_onecopy.specs.Before.{is_node, is_done}
use Rattle.sy_onecopy.specs.Settle.{await, reply, to_stage, settle}

abbrev pub stop : Board → Ending → Board
stop b e = record b { ended = Some e }

-- ---- printing

-- the bytes are appended, but the output holds 2^24 bytes at most
unfoldable pub after_print : Board → ℕ → List ℕ → Board
after_print b t bytes =
    if nat_le (length b.output + length bytes) (2 ^ 24) then reply (record b { output = b.output ++ bytes }) t Answered else stop b OutputFull

-- ---- buffers

abbrev pub is_part : Origin → Bool
is_part Vector = false
is_part Range = false
is_part Part = true

-- the buffer is there, has not ended, and has elements of its own
abbrev pub is_root : Option Buffer → Bool
is_root None = false
is_root (Some x) = not x.ended && not (is_part x.origin)

abbrev pub count_of : Option Buffer → ℕ
count_of None = 0
count_of (Some x) = length x.values

-- the need writes if it has no_init
abbrev pub writes_if_fresh : Need → Bool
writes_if_fresh n = writes n.mode || not n.no_init

-- the need names a root and a run of its elements, and writes if it has no_init
unfoldable pub is_root_need : List Buffer → Need → Bool
is_root_need buffers n =
    is_root (slice_get buffers n.buffer) && (nat_le n.from n.to && (nat_le n.to (count_of (slice_get buffers n.buffer)) && writes_if_fresh n))

-- the elements of the buffers that have not ended
unfoldable pub live_elements : List Buffer → ℕ
live_elements buffers = sum_by (λ x. if x.ended then 0 else length x.values) buffers

abbrev pub has_count : ℕ → Option (List ℤ) → Bool
has_count n None = true
has_count n (Some values) = length values == n

abbrev pub origin_of : Option (List ℤ) → Origin
origin_of None = Range
origin_of (Some values) = Vector

-- the given numbers, or zeros
abbrev pub new_buffer : NewBuffer → Buffer
new_buffer m = record { values = unwrap_or m.init (replicate (product m.range) (pos 0)); origin = origin_of m.init; ended = false }

abbrev pub add_buffer : Board → ℕ → Buffer → Board
add_buffer b t x = reply (record b { buffers = b.buffers ++ x ∷ [] }) t (Number (length b.buffers))

-- the buffers that have not ended have 2^22 elements at most
unfoldable pub made_buffer : Board → ℕ → NewBuffer → Board
made_buffer b t m =
    if has_count (product m.range) m.init
    then (if nat_le (live_elements b.buffers + product m.range) (2 ^ 22) then add_buffer b t (new_buffer m) else reply b t (Refused MemoryAllocation))
    else b

abbrev pub part_buffer : Buffer
part_buffer = record { values = []; origin = Part; ended = false }

-- so many elements of a root from this one on
unfoldable pub made_part : Board → ℕ → ℕ → ℕ → ℕ → Board
made_part b t parent base count =
    if is_root (slice_get b.buffers parent) && nat_le (base + count) (count_of (slice_get b.buffers parent)) then add_buffer b t part_buffer else b

abbrev pub add_entry : Board → Entry → Board
add_entry b e = record b { entries = b.entries ++ e ∷ [] }

-- a buffer as one need that reads and writes all its elements
abbrev pub whole : ℕ → Buffer → Need
whole r x = record { buffer = r; mode = ReadWrite; no_init = false; from = 0; to = length x.values }

abbrev pub end_entry : ℕ → ℕ → Buffer → Entry
end_entry t r x = record { work = End t r; needs = whole r x ∷ []; after = []; in_order = None; place = 0; stage = Pending }

abbrev pub with_end : Buffer → Buffer
with_end x = record x { ended = true }

abbrev pub mark_ended : Board → ℕ → Board
mark_ended b r = record b { buffers = changed_at with_end r b.buffers }

-- the buffer has ended. One over a vector waits for its last writers
unfoldable pub end_root : Board → ℕ → ℕ → Buffer → Origin → Board
end_root b t r x Vector = await (add_entry (mark_ended b r) (end_entry t r x)) t OnEntry
end_root b t r x Range = reply (mark_ended b r) t Answered
end_root b t r x Part = reply (mark_ended b r) t Answered

unfoldable pub end_buffer : Board → ℕ → ℕ → Option Buffer → Board
end_buffer b t r None = b
end_buffer b t r (Some x) = if x.ended then b else end_root b t r x x.origin

-- ---- host accesses

abbrev pub is_access_of : ℕ → Work → Bool
is_access_of t (Node n q c) = false
is_access_of t (Access u i) = u == t
is_access_of t (End u r) = false

-- how many accesses the thread has opened
unfoldable pub accesses : List Entry → ℕ → ℕ
accesses entries t = count_by (λ e. is_access_of t e.work) entries

abbrev pub access_entry : ℕ → ℕ → Need → Entry
access_entry t k n = record { work = Access t k; needs = n ∷ []; after = []; in_order = None; place = 0; stage = Pending }

unfoldable pub opened_host : Board → ℕ → Need → Board
opened_host b t n =
    if is_root_need b.buffers n then await (add_entry b (access_entry t (accesses b.entries t) n)) t OnEntry else b

abbrev pub is_access : Work → ℕ → ℕ → Bool
is_access (Node n q c) t k = false
is_access (Access u i) t k = u == t && i == k
is_access (End u r) t k = false

-- where the thread's access of that number stands, counted from the number
abbrev pub access_from : ℕ → List Entry → ℕ → ℕ → Option ℕ
access_from at [] t k = None
access_from at (e ∷ es) t k = if is_access e.work t k then Some at else access_from (suc at) es t k

-- the element after the access of this need gave these numbers back
unfoldable pub cell_put : Need → List ℤ → ℕ → ℕ → ℤ → ℤ
cell_put n values b i v = if has_cell n b i then slice_index_or values (i - n.from) v else v

unfoldable pub buffer_put : Need → List ℤ → ℕ → Buffer → Buffer
buffer_put n values b x = record x { values = each_from (cell_put n values b) 0 x.values }

unfoldable pub put_back : Board → Need → List ℤ → Board
put_back b n values = if writes n.mode then record b { buffers = each_from (buffer_put n values) 0 b.buffers } else b

-- the access at entry k, of this need, is closed with these numbers
unfoldable pub after_close : Board → ℕ → List ℤ → ℕ → Need → Board
after_close b t values k n = if length values == n.to - n.from then reply (to_stage (put_back b n values) k Done) t Answered else b

unfoldable pub close_entry : Board → ℕ → List ℤ → ℕ → Stage → List Need → Board
close_entry b t values k Granted (n ∷ ns) = after_close b t values k n
close_entry b t values k s ns = b

unfoldable pub close_at : Board → ℕ → List ℤ → ℕ → Option Entry → Board
close_at b t values k None = b
close_at b t values k (Some e) = close_entry b t values k e.stage e.needs

unfoldable pub close_found : Board → ℕ → List ℤ → Option ℕ → Board
close_found b t values None = b
close_found b t values (Some k) = close_at b t values k (slice_get b.entries k)

-- ---- contexts and queues

-- a run has 16 contexts at most, which have the places 1 to 16
unfoldable pub made_context : Board → ℕ → Board
made_context b t = if nat_lt b.places 17 then reply (record b { places = suc b.places }) t (Number b.places) else reply b t (Refused Runtime)

abbrev pub add_queue : Board → ℕ → Queue → Board
add_queue b t x = reply (record b { queues = b.queues ++ x ∷ [] }) t (Number (length b.queues))

unfoldable pub made_queue : Board → ℕ → NewQueue → Board
made_queue b t m =
    if nat_lt 0 m.context && nat_lt m.context b.places then add_queue b t (record { place = m.context; in_order = m.in_order }) else b

-- ---- nodes

abbrev pub is_alike : Need → Need → Bool
is_alike a n = n.buffer == a.buffer && (n.from == a.from && n.to == a.to)

-- no two name one run of one buffer
abbrev pub are_different : List Need → Bool
are_different [] = true
are_different (n ∷ ns) = not (list_any (is_alike n) ns) && are_different ns

unfoldable pub are_root_needs : List Buffer → List Need → Bool
are_root_needs buffers needs = list_all (is_root_need buffers) needs && are_different needs

unfoldable pub are_below : ℕ → List ℕ → Bool
are_below n numbers = list_all (λ k. nat_lt k n) numbers

-- the need writes one element
abbrev pub is_cell_need : Option Need → Bool
is_cell_need None = false
is_cell_need (Some n) = writes n.mode && (n.to == suc n.from)

-- the places that the command names are among its needs
unfoldable pub has_needs : List Need → Command → Bool
has_needs needs (Single kernel) = true
has_needs needs (Plain range kernel) = true
has_needs needs (Nd range kernel) = true
has_needs needs (Fill target value) = nat_lt target (length needs)
has_needs needs (Copy source target) = nat_lt source (length needs) && nat_lt target (length needs)
has_needs needs (Reduce r) = is_cell_need (slice_get needs r.need)

unfoldable pub holds_together : Board → Submission → Bool
holds_together b s = are_root_needs b.buffers s.needs && (are_below b.nodes s.after && has_needs s.needs s.command)

abbrev pub order_queue : ℕ → Queue → Option ℕ
order_queue q x = if x.in_order then Some q else None

abbrev pub node_entry : ℕ → Submission → Queue → Entry
node_entry n s x =
    record { work = Node n s.queue s.command; needs = s.needs; after = s.after; in_order = order_queue s.queue x; place = x.place; stage = Pending }

abbrev pub add_node : Board → ℕ → Entry → Board
add_node b t e = reply (record b { entries = b.entries ++ e ∷ []; nodes = suc b.nodes }) t (Number b.nodes)

unfoldable pub after_submit : Board → ℕ → Submission → Option Queue → Board
after_submit b t s None = b
after_submit b t s (Some x) = if holds_together b s then add_node b t (node_entry b.nodes s x) else b

-- ---- waits

abbrev pub wait_if : Bool → Board → ℕ → Waits → Board
wait_if true b t w = await b t w
wait_if false b t w = b

-- the error of a failed node of that queue
abbrev pub error_in : ℕ → Work → Stage → Option KernelError
error_in q (Node n p c) (Failed f) = if p == q then Some (record { node = n; fault = f }) else None
error_in q w s = None

abbrev pub or_later : Option KernelError → Option KernelError → Option KernelError
or_later None later = later
or_later (Some e) later = Some e

-- the least failed node of the queue. Nodes stand in the order of their numbers
abbrev pub error_on : ℕ → List Entry → Option KernelError
error_on q [] = None
error_on q (e ∷ es) = or_later (error_in q e.work e.stage) (error_on q es)

abbrev pub after_throw : Board → ℕ → Option KernelError → Board
after_throw b t None = reply b t Answered
after_throw b t (Some e) = stop b (KernelFailed e)

unfoldable pub throw_queue : Board → ℕ → ℕ → Board
throw_queue b t q = if nat_lt q (length b.queues) then after_throw b t (error_on q b.entries) else b

-- ---- threads

-- a run has 64 threads at most
unfoldable pub after_spawn : Board → ℕ → Board
after_spawn b t =
    if nat_lt (length b.waits) 64 then reply (record b { waits = b.waits ++ Ready ∷ [] }) t (Number (length b.waits)) else stop b (Terminated Threads)

-- how a thread that halts ends the run
abbrev pub ending_by : ℕ → Halt → Ending
ending_by t (halt.Terminated why) = Terminated why
ending_by t (halt.Trapped cause line) = Trapped (record { thread = t; line = line; cause = cause })
ending_by t (halt.TurnsSpent line) = TurnsSpent t line

-- ---- a turn

-- the ask's own effect, before anything settles. One that does not hold together has none, and no answer
unfoldable pub apply : Board → ℕ → Ask → Board
apply b t (Print bytes) = after_print b t bytes
apply b t (MakeBuffer m) = made_buffer b t m
apply b t (MakeSub parent base range) = made_part b t parent base (product range)
apply b t (EndBuffer r) = end_buffer b t r (slice_get b.buffers r)
apply b t (OpenHost n) = opened_host b t n
apply b t (CloseHost k values) = close_found b t values (access_from 0 b.entries t k)
apply b t (MakeContext device) = made_context b t
apply b t (MakeQueue m) = made_queue b t m
apply b t (Submit s) = after_submit b t s (slice_get b.queues s.queue)
apply b t (WaitNode n) = wait_if (nat_lt n b.nodes) b t (OnNode n)
apply b t (WaitQueue q) = wait_if (nat_lt q (length b.queues)) b t (OnQueue q b.nodes)
apply b t (ThrowQueue q) = throw_queue b t q
apply b t (Spawn body captures) = after_spawn b t
apply b t (Join u) = wait_if (nat_lt u (length b.waits)) b t (OnThread u)
apply b t (Finish v) = await b t (Finished v)
apply b t (AskHalt h) = stop b (ending_by t h)
apply b t (Barrier place line) = b
apply b t (Collect place line call) = b

unfoldable pub node_done : List Entry → ℕ → Bool
node_done entries n = list_any (λ e. is_node e.work n && is_done e.stage) entries

abbrev pub is_node_on : ℕ → Work → Bool
is_node_on q (Node n p c) = p == q
is_node_on q (Access t k) = false
is_node_on q (End t r) = false

abbrev pub number_of : Work → ℕ
number_of (Node n q c) = n
number_of (Access t k) = 0
number_of (End t r) = 0

-- the entry is no node of that queue below that number, or is done
abbrev pub is_past : ℕ → ℕ → Entry → Bool
is_past q n e = not (is_node_on q e.work && nat_lt (number_of e.work) n) || is_done e.stage

unfoldable pub queue_done : List Entry → ℕ → ℕ → Bool
queue_done entries q n = list_all (is_past q n) entries

abbrev pub has_finished : Option Waits → Bool
has_finished (Some (Finished v)) = true
has_finished w = false

-- what the thread waits for has come
abbrev pub is_due : Board → Waits → Bool
is_due b (OnNode n) = node_done b.entries n
is_due b (OnQueue q n) = queue_done b.entries q n
is_due b (OnThread u) = has_finished (slice_get b.waits u)
is_due b w = false

abbrev pub given : Board → Waits → Waits
given b w = if is_due b w then Due Answered else w

-- a wait that is over is answered
unfoldable pub give_all : Board → Board
give_all b = record b { waits = map (given b) b.waits }

-- the step is counted, and the thread's ask is made and not yet answered
abbrev pub begin_ask : Board → ℕ → Board
begin_ask b t = await (record b { steps = suc b.steps }) t Never

-- the ask has its effect, the entries settle, and the answers that are due are given
unfoldable pub turn : OutcomeOf → Board → ℕ → Ask → Board
turn out b t q = give_all (settle out (apply (begin_ask b t) t q))

-- ---- a step

-- a thread that the ask started stands at the end
unfoldable pub threads_after : Board → Ask → List Thread → List Thread
threads_after b (Spawn body captures) threads = if nat_lt (length threads) (length b.waits) then threads ++ new_thread body captures ∷ [] else threads
threads_after b q threads = threads

-- an answer that is due reaches its thread
abbrev pub hear : Waits → Thread → Thread
hear (Due a) x = record x { answers = x.answers ++ a ∷ [] }
hear w x = x

abbrev pub hear_all : List Waits → List Thread → List Thread
hear_all (w ∷ ws) (x ∷ xs) = hear w x ∷ hear_all ws xs
hear_all [] xs = xs
hear_all (w ∷ ws) [] = []

-- which is then ready
abbrev pub once_heard : Waits → Waits
once_heard (Due a) = Ready
once_heard w = w

abbrev pub hear_answers : Board → List Thread → State
hear_answers b threads = record { board = record b { waits = map once_heard b.waits }; threads = hear_all b.waits threads }

abbrev pub after_turn : List Thread → Ask → Board → State
after_turn threads q b = hear_answers b (threads_after b q threads)

-- the state after a step of thread t
unfoldable pub step : Program → State → ℕ → State
step p s t = after_turn s.threads (next_ask p s t) (turn p.outcome s.board t (next_ask p s t))
