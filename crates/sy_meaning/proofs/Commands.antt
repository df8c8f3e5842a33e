-- Command groups, buffers and queues, computed: what is asked.
use Rattle.std.proofs.Common.{refl}
use Rattle.std.specs.Fmt as text
use Rattle.std.specs.Prelude.{List, Some, [], false, pos, true, ℕ, ◌∷◌, ◌≡◌, ◌++◌}
use Rattle.sy_access.specs.declared.access.Mode.{Mode}
use Rattle.sy_access.specs.declared.access.Mode.TheVariants as mode
use Rattle.sy_num.specs.Scalars as scalars
use Rattle.sy_num.specs.declared.Kind.TheVariants as kinds
use Rattle.sy_tree.specs.declared.operators.AssignmentOperator.TheVariants as assign
use Rattle.sy_tree.specs.declared.parts.Brackets.TheVariants as brackets
use Rattle.sy_tree.specs.declared.parts.FunctionObject.TheVariants as functions
use Rattle.sy_tree.specs.declared.parts.LibraryFunction.TheVariants as library
use Rattle.sy_typed.specs.declared.things.Dimensions.TheVariants as dimensions
use Rattle.sy_typed.specs.declared.things.Member.TheVariants as member
use Rattle.sy_typed.specs.declared.things.Thing.{Thing}
use Rattle.sy_typed.specs.declared.things.Thing.TheVariants as thing
use Rattle.sy_typed.specs.declared.tree.TypedArgument.TheOpen.{TypedDeclaration-F, TypedNode-F}
use Rattle.sy_typed.specs.declared.tree.TypedCapture.TheVariants as capture
use Rattle.sy_work.specs.declared.endings.Cause.TheVariants as cause
use Rattle.sy_work.specs.declared.asks.Answer.TheVariants as answer
use Rattle.sy_work.specs.declared.asks.Ask.{Ask}
use Rattle.sy_work.specs.declared.asks.Ask.TheVariants as asks
use Rattle.sy_work.specs.declared.asks.Errc.{Errc}
use Rattle.sy_work.specs.declared.asks.Errc.TheVariants as errc
use Rattle.sy_work.specs.declared.asks.Halt.TheVariants as halt
use Rattle.sy_work.specs.declared.asks.Why.TheVariants as why
use Rattle.sy_work.specs.declared.commands.Command.TheVariants as commands
use Rattle.sy_work.specs.declared.commands.RedOp.TheVariants as red
use Rattle.sy_meaning.specs.Expressions.{Argument, Exp, lambda, value}
use Rattle.sy_meaning.specs.Statements.{Statement, copied}
use Rattle.sy_meaning.proofs.Trees.{accessor_type, ask_after, assign_of, buffer, compound, declaration, expr, index_of, ints, ints_of, lambda_of, made, member_of, nam, node, num, object_of, printing, range_of_one, spot, try_of, variable}

abbrev handler : Exp
handler = nam thing.Handler 9 3

abbrev id_type : Thing
id_type = thing.Id dimensions.One

-- accessor a{b, h};
abbrev accessor_at : ℕ → Thing → ℕ → Statement
accessor_at n t b = object_of n t (value (nam buffer b 3) ∷ value handler ∷ []) 3

abbrev accessor_with : Mode → Thing
accessor_with m = thing.Accessor kinds.Int dimensions.One m

-- q.submit([&](handler& h) { .. });
abbrev submit_of : List Statement → Statement
submit_of ss =
    expr (member_of (nam thing.Queue 0 2) member.Submit (lambda (lambda_of 5 [] (variable 9 thing.Handler 2 ∷ []) ss 2) ∷ []) thing.Event 2) 2

abbrev queue_at : Statement
queue_at = object_of 0 thing.Queue [] 1

-- [=](id<1> i) { .. } that captures the accessor a, which is 2
abbrev kernel_of : List Statement → Argument
kernel_of ss = lambda (lambda_of 6 (capture.Copy (variable 2 accessor_type 3) ∷ []) (variable 3 id_type 4 ∷ []) ss 4)

abbrev parallel_for_of : List Argument → Statement
parallel_for_of xs = expr (member_of handler member.ParallelFor xs thing.Void 4) 4

-- a[i] += 2;
abbrev add_two : List Statement
add_two =
    assign_of (index_of (nam accessor_type 2 4) (nam id_type 3 4) 4) assign.Add (num 2 4) 4 ∷ []

-- std::vector<int> v(4, 1); queue q; { buffer b{v}; q.submit(..); } std::cout << v[3];
abbrev add_two_to_all : List Statement
add_two_to_all =
    ints_of 10 brackets.Parentheses (value (num 4 1) ∷ value (num 1 1) ∷ []) 1 ∷ queue_at ∷ compound (object_of 1 buffer (value (nam ints 10 2) ∷ []) 2 ∷ submit_of (accessor_at 2 accessor_type 1 ∷ parallel_for_of (value (range_of_one 4 4) ∷ kernel_of add_two ∷ []) ∷ []) ∷ []) 5 ∷ printing (index_of (nam ints 10 6) (num 3 6) 6) ∷ []

makes_queue : ask_after add_two_to_all [] ≡ asks.MakeQueue (record { context = 1; device = record { first = 0; units = 8 }; in_order = false })
unfolding scalars.converted_num scalars.reduced
makes_queue = refl

makes_buffer_over : ask_after add_two_to_all (answer.Number 0 ∷ []) ≡ asks.MakeBuffer (record { kind = kinds.Int; range = 4 ∷ []; init = Some (pos 1 ∷ pos 1 ∷ pos 1 ∷ pos 1 ∷ []) })
unfolding scalars.converted_num scalars.reduced
makes_buffer_over = refl

submits_kernel : ask_after add_two_to_all (answer.Number 0 ∷ answer.Number 3 ∷ []) ≡ asks.Submit (record {
  queue = 0;
  command = commands.Plain (4 ∷ []) (record { code = 6; captures = pos 3 ∷ pos 0 ∷ pos 4 ∷ []; locals = []; turns = 99 });
  needs = record { buffer = 3; mode = mode.ReadWrite; no_init = false; from = 0; to = 4 } ∷ [];
  after = [];
})
unfolding scalars.converted_num scalars.reduced
submits_kernel = refl

writes_back : ask_after add_two_to_all (answer.Number 0 ∷ answer.Number 3 ∷ answer.Number 0 ∷ []) ≡ asks.EndBuffer 3
unfolding scalars.converted_num scalars.reduced
writes_back = refl

prints_what_came_back : ask_after add_two_to_all (answer.Number 0 ∷ answer.Number 3 ∷ answer.Number 0 ∷ answer.Contents (pos 3 ∷ pos 3 ∷ pos 3 ∷ pos 3 ∷ []) ∷ []) ≡ asks.Print (51 ∷ [])
unfolding scalars.converted_num scalars.reduced text.digits
prints_what_came_back = refl

-- ---- errors of a command group

abbrev group_of_one : List Statement → List Statement
group_of_one ss = queue_at ∷ object_of 1 buffer (value (range_of_one 1 2) ∷ []) 2 ∷ submit_of ss ∷ []

abbrev one_task : Statement
one_task = expr (member_of handler member.SingleTask (lambda (lambda_of 6 [] [] [] 4) ∷ []) thing.Void 4) 4

abbrev refused_with : Errc → Ask
refused_with e = asks.Halt (halt.Terminated (why.Errc e))

no_command : ask_after (group_of_one []) (answer.Number 0 ∷ answer.Number 0 ∷ []) ≡ refused_with errc.Invalid
unfolding scalars.converted_num scalars.reduced
no_command = refl

second_command : ask_after (group_of_one (one_task ∷ one_task ∷ [])) (answer.Number 0 ∷ answer.Number 0 ∷ []) ≡ refused_with errc.Invalid
unfolding scalars.converted_num scalars.reduced
second_command = refl

abbrev nd_range_of : ℕ → ℕ → Exp
nd_range_of g l = made (thing.NdRange dimensions.One) (value (range_of_one g 4) ∷ value (range_of_one l 4) ∷ []) 4

abbrev nd_kernel : Argument
nd_kernel = lambda (lambda_of 6 [] (variable 3 (thing.NdItem dimensions.One) 4 ∷ []) [] 4)

bad_nd_range : ask_after (group_of_one (parallel_for_of (value (nd_range_of 10 4) ∷ nd_kernel ∷ []) ∷ [])) (answer.Number 0 ∷ answer.Number 0 ∷ []) ≡ refused_with errc.NdRange
unfolding scalars.converted_num scalars.reduced
bad_nd_range = refl

submits_nd_range : ask_after (group_of_one (parallel_for_of (value (nd_range_of 8 4) ∷ nd_kernel ∷ []) ∷ [])) (answer.Number 0 ∷ answer.Number 0 ∷ []) ≡ asks.Submit (record {
  queue = 0;
  command = commands.Nd (record { global = 8 ∷ []; local = 4 ∷ [] }) (record { code = 6; captures = []; locals = []; turns = 99 });
  needs = [];
  after = [];
})
unfolding scalars.converted_num scalars.reduced
submits_nd_range = refl

-- local_accessor<int> l{range<1>{n}, h};
abbrev local_type : Thing
local_type = thing.LocalAccessor kinds.Int dimensions.One

abbrev local_at : ℕ → Statement
local_at n = object_of 4 local_type (value (range_of_one n 3) ∷ value handler ∷ []) 3

too_much_local_memory : ask_after (group_of_one (local_at 65537 ∷ one_task ∷ [])) (answer.Number 0 ∷ answer.Number 0 ∷ []) ≡ refused_with errc.MemoryAllocation
unfolding scalars.converted_num scalars.reduced
too_much_local_memory = refl

abbrev task_with_local : Statement
task_with_local =
    expr (member_of handler member.SingleTask (lambda (lambda_of 6 (capture.Copy (variable 4 local_type 3) ∷ []) [] [] 4) ∷ []) thing.Void 4) 4

local_without_groups : ask_after (group_of_one (local_at 8 ∷ task_with_local ∷ [])) (answer.Number 0 ∷ answer.Number 0 ∷ []) ≡ refused_with errc.KernelArgument
unfolding scalars.converted_num scalars.reduced
local_without_groups = refl

-- ---- fill, copy, reductions and needs

abbrev filling : List Statement
filling =
    group_of_one (accessor_at 2 (accessor_with mode.Write) 1 ∷ expr (member_of handler member.Fill (value (nam (accessor_with mode.Write) 2 4) ∷ value (num 7 4) ∷ []) thing.Void 4) 4 ∷ [])

submits_fill : ask_after filling (answer.Number 0 ∷ answer.Number 0 ∷ []) ≡ asks.Submit (record {
  queue = 0;
  command = commands.Fill 0 (pos 7);
  needs = record { buffer = 0; mode = mode.Write; no_init = false; from = 0; to = 1 } ∷ [];
  after = [];
})
unfolding scalars.converted_num scalars.reduced
submits_fill = refl

-- accessor a{b, h, read_only}; accessor r{b, h, write_only}; h.copy(a, r);
abbrev copying : List Statement
copying =
    group_of_one (accessor_at 2 (accessor_with mode.Read) 1 ∷ accessor_at 3 (accessor_with mode.Write) 1 ∷ expr (member_of handler member.Copy (value (nam (accessor_with mode.Read) 2 4) ∷ value (nam (accessor_with mode.Write) 3 4) ∷ []) thing.Void 4) 4 ∷ [])

needs_are_one : ask_after copying (answer.Number 0 ∷ answer.Number 0 ∷ []) ≡ asks.Submit (record {
  queue = 0;
  command = commands.Copy 0 0;
  needs = record { buffer = 0; mode = mode.ReadWrite; no_init = false; from = 0; to = 1 } ∷ [];
  after = [];
})
unfolding scalars.converted_num scalars.reduced
needs_are_one = refl

-- reduction(b, h, maximum<int>(), property::reduction::initialize_to_identity{})
abbrev maximum_of_one : List Argument → Exp
maximum_of_one xs =
    node (TypedNode-F.LibraryCall library.Reduction (value (nam buffer 1 4) ∷ value handler ∷ value (node (TypedNode-F.FunctionObject functions.Maximum (Some kinds.Int) (spot 4)) (thing.FunctionObject functions.Maximum (Some kinds.Int)) 4) ∷ xs) (spot 4)) (thing.Reduction kinds.Int functions.Maximum) 4

abbrev reducing : List Argument → List Statement
reducing xs =
    group_of_one (parallel_for_of (value (range_of_one 5 4) ∷ value (maximum_of_one xs) ∷ lambda (lambda_of 6 [] [] [] 4) ∷ []) ∷ [])

abbrev to_identity : Argument
to_identity = value (node (TypedNode-F.InitializeToIdentity (spot 4)) thing.InitializeToIdentity 4)

submits_reduction : ask_after (reducing (to_identity ∷ [])) (answer.Number 0 ∷ answer.Number 0 ∷ []) ≡ asks.Submit (record {
  queue = 0;
  command = commands.Reduce (record { range = record { global = 5 ∷ []; local = 5 ∷ [] }; plain = true; kernel = record { code = 6; captures = []; locals = []; turns = 99 }; need = 0; op = red.Max; kind = kinds.Int; keep = false; line = 4 });
  needs = record { buffer = 0; mode = mode.Write; no_init = true; from = 0; to = 1 } ∷ [];
  after = [];
})
unfolding scalars.converted_num scalars.reduced
submits_reduction = refl

-- an accessor names the root before
root_is_named : ask_after (group_of_one (accessor_at 2 accessor_type 1 ∷ parallel_for_of (value (range_of_one 5 4) ∷ value (maximum_of_one []) ∷ lambda (lambda_of 6 [] [] [] 4) ∷ []) ∷ [])) (answer.Number 0 ∷ answer.Number 0 ∷ []) ≡ refused_with errc.Invalid
unfolding scalars.converted_num scalars.reduced
root_is_named = refl

-- ---- sub-buffers, contexts and queues

-- buffer<int, 2> b{range<2>{4, 4}}; buffer s{b, id<2>{..}, range<2>{..}};
abbrev wide : Thing
wide = thing.Buffer kinds.Int dimensions.Two

abbrev pair_of : Thing → ℕ → ℕ → Argument
pair_of t a b = value (made t (value (num a 2) ∷ value (num b 2) ∷ []) 2)

abbrev part : ℕ → ℕ → ℕ → ℕ → List Statement
part a b c d =
    object_of 0 wide (pair_of (thing.Range dimensions.Two) 4 4 ∷ []) 1 ∷ object_of 1 wide (value (nam wide 0 2) ∷ pair_of (thing.Id dimensions.Two) a b ∷ pair_of (thing.Range dimensions.Two) c d ∷ []) 2 ∷ []

whole_rows : ask_after (part 1 0 2 4) (answer.Number 6 ∷ []) ≡ asks.MakeSub 6 4 (2 ∷ 4 ∷ [])
unfolding scalars.converted_num scalars.reduced
whole_rows = refl

not_contiguous : ask_after (part 0 1 2 2) (answer.Number 6 ∷ []) ≡ refused_with errc.Invalid
unfolding scalars.converted_num scalars.reduced
not_contiguous = refl

ends_part_first : ask_after (part 1 0 2 4) (answer.Number 6 ∷ answer.Number 7 ∷ []) ≡ asks.EndBuffer 7
unfolding scalars.converted_num scalars.reduced
ends_part_first = refl

-- queue q{s[1]}; with s four units each
abbrev sub_device_queue : List Statement
sub_device_queue =
    object_of 3 thing.Device [] 1 ∷ declaration (TypedDeclaration-F.DeviceVector (variable 4 thing.DeviceVector 1) (Some (copied (member_of (nam thing.Device 3 1) member.CreateSubDevices (value (num 4 1) ∷ []) thing.DeviceVector 1))) (spot 1)) ∷ object_of 0 thing.Queue (value (node (TypedNode-F.Subscript (nam thing.DeviceVector 4 2) (num 1 2) (spot 2)) thing.Device 2) ∷ []) 2 ∷ expr (member_of (nam thing.Queue 0 3) member.Wait [] thing.Void 3) 3 ∷ []

makes_context : ask_after sub_device_queue [] ≡ asks.MakeContext (record { first = 4; units = 4 })
unfolding scalars.converted_num scalars.reduced
makes_context = refl

makes_queue_in_it : ask_after sub_device_queue (answer.Number 2 ∷ []) ≡ asks.MakeQueue (record { context = 2; device = record { first = 4; units = 4 }; in_order = false })
unfolding scalars.converted_num scalars.reduced
makes_queue_in_it = refl

waits_for_queue : ask_after sub_device_queue (answer.Number 2 ∷ answer.Number 5 ∷ []) ≡ asks.WaitQueue 5
unfolding scalars.converted_num scalars.reduced
waits_for_queue = refl

-- device d; queue q = d;
abbrev queue_from_device : List Statement
queue_from_device =
    object_of 3 thing.Device [] 1 ∷ declaration (TypedDeclaration-F.Object (variable 0 thing.Queue 2) (Some (copied (nam thing.Device 3 2))) (spot 2)) ∷ []

makes_queue_of_whole : ask_after queue_from_device [] ≡ asks.MakeQueue (record { context = 1; device = record { first = 0; units = 8 }; in_order = false })
unfolding scalars.converted_num scalars.reduced
makes_queue_of_whole = refl

-- ---- an error caught, and the contents written back before

-- std::vector<int> v(2); try { buffer b{v}; d.create_sub_devices<..>(9); } catch (const exception& e) { std::cout << v[0]; }
abbrev caught_write_back : List Statement
caught_write_back =
    ints_of 10 brackets.Parentheses (value (num 2 1) ∷ []) 1 ∷ object_of 3 thing.Device [] 1 ∷ try_of (object_of 1 buffer (value (nam ints 10 2) ∷ []) 2 ∷ expr (member_of (nam thing.Device 3 3) member.CreateSubDevices (value (num 9 3) ∷ []) thing.DeviceVector 3) 3 ∷ []) 4 (printing (index_of (nam ints 10 5) (num 0 5) 5) ∷ []) 6 ∷ []

error_ends_buffer : ask_after caught_write_back (answer.Number 0 ∷ []) ≡ asks.EndBuffer 0
unfolding scalars.converted_num scalars.reduced
error_ends_buffer = refl

handler_sees_contents : ask_after caught_write_back (answer.Number 0 ∷ answer.Contents (pos 5 ∷ pos 5 ∷ []) ∷ []) ≡ asks.Print (53 ∷ [])
unfolding scalars.converted_num scalars.reduced text.digits
handler_sees_contents = refl

-- ---- the vector's data, sub-buffers' needs, events and order

-- std::vector<int> v(6); buffer<int, 2> b{v.data(), range<2>{2, 3}};
over_data : ask_after (ints_of 10 brackets.Parentheses (value (num 6 1) ∷ []) 1 ∷ object_of 0 wide (value (member_of (nam ints 10 2) member.Data [] (thing.Data kinds.Int) 2) ∷ pair_of (thing.Range dimensions.Two) 2 3 ∷ []) 2 ∷ []) [] ≡ asks.MakeBuffer (record { kind = kinds.Int; range = 2 ∷ 3 ∷ []; init = Some (pos 0 ∷ pos 0 ∷ pos 0 ∷ pos 0 ∷ pos 0 ∷ pos 0 ∷ []) })
unfolding scalars.converted_num scalars.reduced
over_data = refl

-- buffer<int, 2> b{v.data(), range<2>{2, 4}};
past_the_vector : ask_after (ints_of 10 brackets.Parentheses (value (num 6 1) ∷ []) 1 ∷ object_of 0 wide (value (member_of (nam ints 10 2) member.Data [] (thing.Data kinds.Int) 2) ∷ pair_of (thing.Range dimensions.Two) 2 4 ∷ []) 2 ∷ []) [] ≡ asks.Halt (halt.Trapped cause.Index 2)
unfolding scalars.converted_num scalars.reduced
past_the_vector = refl

-- queue q{property::queue::in_order{}};
in_order_queue : ask_after (object_of 0 thing.Queue (value (node (TypedNode-F.InOrder (spot 1)) thing.InOrder 1) ∷ []) 1 ∷ []) [] ≡ asks.MakeQueue (record { context = 1; device = record { first = 0; units = 8 }; in_order = true })
in_order_queue = refl

-- event e = q.submit(..); q.submit([&](handler& h) { h.depends_on(e); h.single_task(..); }); e.wait();
abbrev submit_of_task : List Statement → Exp
submit_of_task ss =
    member_of (nam thing.Queue 0 2) member.Submit (lambda (lambda_of 5 [] (variable 9 thing.Handler 2 ∷ []) ss 2) ∷ []) thing.Event 2

abbrev with_event : List Statement
with_event =
    queue_at ∷ declaration (TypedDeclaration-F.Object (variable 7 thing.Event 2) (Some (copied (submit_of_task (one_task ∷ [])))) (spot 2)) ∷ submit_of (expr (member_of handler member.DependsOn (value (nam thing.Event 7 3) ∷ []) thing.Void 3) 3 ∷ one_task ∷ []) ∷ expr (member_of (nam thing.Event 7 6) member.Wait [] thing.Void 6) 6 ∷ []

depends_on_event : ask_after with_event (answer.Number 0 ∷ answer.Number 4 ∷ []) ≡ asks.Submit (record {
  queue = 0;
  command = commands.Single (record { code = 6; captures = []; locals = []; turns = 99 });
  needs = [];
  after = 4 ∷ [];
})
depends_on_event = refl

waits_for_node : ask_after with_event (answer.Number 0 ∷ answer.Number 4 ∷ answer.Number 5 ∷ []) ≡ asks.WaitNode 4
waits_for_node = refl

-- try { q.submit([&](handler& h) { h.parallel_for(nd_range<1>{10, 4}, ..); }); } catch (const exception& e) { std::cout << 1; }
throws_in_group : ask_after (queue_at ∷ try_of (submit_of (parallel_for_of (value (nd_range_of 10 4) ∷ nd_kernel ∷ []) ∷ []) ∷ []) 4 (printing (num 1 5) ∷ []) 6 ∷ []) (answer.Number 0 ∷ []) ≡ asks.Print (49 ∷ [])
unfolding scalars.converted_num scalars.reduced text.digits
throws_in_group = refl

-- the buffers stand in 0 and 1, so the queue in 8
abbrev submit_on_eight : List Statement → Statement
submit_on_eight ss =
    expr (member_of (nam thing.Queue 8 2) member.Submit (lambda (lambda_of 5 [] (variable 9 thing.Handler 2 ∷ []) ss 2) ∷ []) thing.Event 2) 2

-- buffer s{b, id<2>{1, 0}, range<2>{2, 4}}; q.submit(.. accessor a{s, h}; .. h.single_task(..));
needs_of_part : ask_after (part 1 0 2 4 ++ object_of 8 thing.Queue [] 2 ∷ submit_on_eight (object_of 5 (thing.Accessor kinds.Int dimensions.Two mode.ReadWrite) (value (nam wide 1 3) ∷ value handler ∷ []) 3 ∷ one_task ∷ []) ∷ []) (answer.Number 6 ∷ answer.Number 7 ∷ answer.Number 0 ∷ []) ≡ asks.Submit (record {
  queue = 0;
  command = commands.Single (record { code = 6; captures = []; locals = []; turns = 99 });
  needs = record { buffer = 6; mode = mode.ReadWrite; no_init = false; from = 4; to = 12 } ∷ [];
  after = [];
})
unfolding scalars.converted_num scalars.reduced
needs_of_part = refl
