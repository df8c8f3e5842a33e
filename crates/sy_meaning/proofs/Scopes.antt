-- Ends of scopes, errors, threads, loops and lvalues, computed.
use Rattle.std.proofs.Common.{refl}
use Rattle.std.specs.Fmt as text
use Rattle.std.specs.Prelude.{List, Some, [], false, pos, true, ℕ, ◌∷◌, ◌≡◌}
use Rattle.sy_num.specs.Kinds as kindwords
use Rattle.sy_num.specs.Operators as opwords
use Rattle.sy_num.specs.Scalars as scalars
use Rattle.sy_num.specs.declared.BinOp.TheVariants as operators
use Rattle.sy_num.specs.declared.Kind.TheVariants as kinds
use Rattle.sy_tree.specs.declared.operators.AssignmentOperator.TheVariants as assign
use Rattle.sy_tree.specs.declared.operators.Operator.TheVariants as operator
use Rattle.sy_tree.specs.declared.parts.Brackets.TheVariants as brackets
use Rattle.sy_tree.specs.declared.parts.Step.TheVariants as way
use Rattle.sy_typed.specs.declared.things.ErrorName.TheVariants as names
use Rattle.sy_typed.specs.declared.things.Member.TheVariants as member
use Rattle.sy_typed.specs.declared.things.Thing.TheVariants as thing
use Rattle.sy_typed.specs.declared.tree.TypedArgument.TheOpen.{TypedDeclaration-F, TypedFull-F, TypedNode-F, TypedStmt-F}
use Rattle.sy_typed.specs.declared.tree.TypedCapture.TheVariants as capture
use Rattle.sy_work.specs.declared.asks.Answer.{Answer}
use Rattle.sy_work.specs.declared.asks.Answer.TheVariants as answer
use Rattle.sy_work.specs.declared.asks.Ask.TheVariants as asks
use Rattle.sy_work.specs.declared.asks.Errc.TheVariants as errc
use Rattle.sy_work.specs.declared.asks.Halt.TheVariants as halt
use Rattle.sy_work.specs.declared.asks.Why.TheVariants as why
use Rattle.sy_work.specs.declared.endings.Cause.TheVariants as cause
use Rattle.sy_meaning.specs.Expressions.{lambda, value}
use Rattle.sy_meaning.specs.Statements.{Statement, copied, declare_value}
use Rattle.sy_meaning.specs.Meaning.{full_step}
use Rattle.sy_meaning.proofs.Trees.{ask_after, assign_of, binary_of, buffer, call_of, compound, declaration, expr, function_of, host_type, index_of, int, int_of, ints, ints_of, lambda_of, made, member_of, nam, no_calls, node, num, object_of, printing, range_of_one, size_t, spot, stmt, try_of, variable}

abbrev four : Answer
four = answer.Contents (pos 0 ∷ pos 1 ∷ pos 2 ∷ pos 3 ∷ [])

-- buffer<int> b{range<1>{4}};
abbrev buffer_at : ℕ → ℕ → Statement
buffer_at n l = object_of n buffer (value (range_of_one 4 l) ∷ []) l

abbrev return_one : ℕ → Statement
return_one l = stmt (TypedStmt-F.Return (spot l) (Some (num 1 l)) (spot l))

abbrev break_at : ℕ → Statement
break_at l = stmt (TypedStmt-F.Break (spot l) (spot l))

-- ---- the last made is ended first

-- buffer b; { buffer c; return 1; }
abbrev returning : List Statement
returning = buffer_at 0 1 ∷ compound (buffer_at 1 2 ∷ return_one 3 ∷ []) 4 ∷ []

return_ends_inner : ask_after returning (answer.Number 0 ∷ answer.Number 1 ∷ []) ≡ asks.EndBuffer 1
unfolding scalars.converted_num scalars.reduced
return_ends_inner = refl

return_ends_outer : ask_after returning (answer.Number 0 ∷ answer.Number 1 ∷ answer.Done ∷ []) ≡ asks.EndBuffer 0
unfolding scalars.converted_num scalars.reduced
return_ends_outer = refl

returns_then : ask_after returning (answer.Number 0 ∷ answer.Number 1 ∷ answer.Done ∷ answer.Done ∷ []) ≡ asks.Finish (pos 1)
unfolding scalars.converted_num scalars.reduced
returns_then = refl

-- while (1) { buffer b; break; } std::cout << 7;
abbrev breaking : List Statement
breaking = stmt (TypedStmt-F.While (spot 1) (num 1 1) (compound (buffer_at 0 2 ∷ break_at 3 ∷ []) 4)) ∷ printing (num 7 5) ∷ []

break_ends : ask_after breaking (answer.Number 0 ∷ []) ≡ asks.EndBuffer 0
unfolding scalars.converted_num scalars.reduced
break_ends = refl

goes_on_behind : ask_after breaking (answer.Number 0 ∷ answer.Done ∷ []) ≡ asks.Print (55 ∷ [])
unfolding scalars.converted_num scalars.reduced text.digits
goes_on_behind = refl

-- ---- errors

-- try { buffer b; host_accessor h{b}; h[1] = 5; buffer c; } catch (const exception& e) { std::cout << 42; }
abbrev guarded : List Statement
guarded =
    try_of (buffer_at 0 2 ∷ object_of 1 host_type (value (nam buffer 0 3) ∷ []) 3 ∷ assign_of (index_of (nam host_type 1 4) (num 1 4) 4) assign.Assign (num 5 4) 4 ∷ buffer_at 2 5 ∷ []) 6 (printing (num 42 7) ∷ []) 8 ∷ []

closes_first : ask_after guarded (answer.Number 0 ∷ four ∷ answer.Refused errc.MemoryAllocation ∷ []) ≡ asks.CloseHost 0 (pos 0 ∷ pos 5 ∷ pos 2 ∷ pos 3 ∷ [])
unfolding scalars.converted_num scalars.reduced
closes_first = refl

ends_then : ask_after guarded (answer.Number 0 ∷ four ∷ answer.Refused errc.MemoryAllocation ∷ answer.Done ∷ []) ≡ asks.EndBuffer 0
unfolding scalars.converted_num scalars.reduced
ends_then = refl

handles_last : ask_after guarded (answer.Number 0 ∷ four ∷ answer.Refused errc.MemoryAllocation ∷ answer.Done ∷ answer.Done ∷ []) ≡ asks.Print (52 ∷ 50 ∷ [])
unfolding scalars.converted_num scalars.reduced text.digits
handles_last = refl

-- void g() { buffer c; buffer d; } void f() { buffer b; g(); } try { f(); } catch (const exception& e) { std::cout << (e.code() == errc::memory_allocation); }
abbrev caught_above : List Statement
caught_above =
    let g = function_of (compound (buffer_at 2 1 ∷ buffer_at 3 1 ∷ []) 1) in
    let f = function_of (compound (buffer_at 1 2 ∷ expr (call_of g 2) 2 ∷ []) 2) in
    let code = member_of (nam thing.Exception 90 4) member.Code [] thing.ErrorCode 4 in
    let wanted = node (TypedNode-F.ErrorCode names.MemoryAllocation (spot 4)) thing.ErrorCode 4 in
    try_of (expr (call_of f 3) 3 ∷ []) 4 (printing (binary_of operators.Eq code wanted (thing.Integer kinds.Bool) 4) ∷ []) 4 ∷ []

leaves_inner_call : ask_after caught_above (answer.Number 0 ∷ answer.Number 1 ∷ answer.Refused errc.MemoryAllocation ∷ []) ≡ asks.EndBuffer 1
unfolding scalars.converted_num scalars.reduced
leaves_inner_call = refl

leaves_outer_call : ask_after caught_above (answer.Number 0 ∷ answer.Number 1 ∷ answer.Refused errc.MemoryAllocation ∷ answer.Done ∷ []) ≡ asks.EndBuffer 0
unfolding scalars.converted_num scalars.reduced
leaves_outer_call = refl

catches_above : ask_after caught_above (answer.Number 0 ∷ answer.Number 1 ∷ answer.Refused errc.MemoryAllocation ∷ answer.Done ∷ answer.Done ∷ []) ≡ asks.Print (49 ∷ [])
unfolding scalars.converted_num scalars.reduced opwords.applied kindwords.common_kind text.digits
catches_above = refl

-- device d; d.create_sub_devices<..>(9);
abbrev parts_of : ℕ → List Statement
parts_of n =
    object_of 0 thing.Device [] 1 ∷ declaration (TypedDeclaration-F.DeviceVector (variable 1 thing.DeviceVector 2) (Some (copied (member_of (nam thing.Device 0 2) member.CreateSubDevices (value (num n 2) ∷ []) thing.DeviceVector 2))) (spot 2)) ∷ printing (member_of (nam thing.DeviceVector 1 3) member.Size [] size_t 3) ∷ []

partition_fails : ask_after (parts_of 9) [] ≡ asks.Halt (halt.Terminated (why.Errc errc.Invalid))
unfolding scalars.converted_num scalars.reduced
partition_fails = refl

partitions : ask_after (parts_of 3) [] ≡ asks.Print (50 ∷ [])
unfolding scalars.converted_num scalars.reduced text.digits
partitions = refl

-- ---- temporaries

-- buffer b; std::cout << host_accessor{b}[1]++;
abbrev temporary : List Statement
temporary =
    buffer_at 0 1 ∷ printing (node (TypedNode-F.Postfix (index_of (made host_type (value (nam buffer 0 2) ∷ []) 2) (num 1 2) 2) way.Increment) int 2) ∷ []

prints_old_value : ask_after temporary (answer.Number 0 ∷ four ∷ []) ≡ asks.Print (49 ∷ [])
unfolding scalars.converted_num scalars.reduced opwords.applied opwords.fitted kindwords.common_kind opwords.represented text.digits
prints_old_value = refl

temporary_ends : ask_after temporary (answer.Number 0 ∷ four ∷ answer.Done ∷ []) ≡ asks.CloseHost 0 (pos 0 ∷ pos 2 ∷ pos 2 ∷ pos 3 ∷ [])
unfolding scalars.converted_num scalars.reduced opwords.applied opwords.fitted kindwords.common_kind opwords.represented
temporary_ends = refl

-- ---- lvalues

-- v[9] += 1 / 0;
right_side_first : ask_after (ints_of 0 brackets.Parentheses (value (num 2 1) ∷ []) 1 ∷ assign_of (index_of (nam ints 0 3) (num 9 3) 3) assign.Add (binary_of operators.Div (num 1 2) (num 0 2) int 2) 3 ∷ []) [] ≡ asks.Halt (halt.Trapped cause.ZeroDivisor 2)
unfolding scalars.converted_num scalars.reduced opwords.applied opwords.quotient kindwords.common_kind
right_side_first = refl

past_the_end : ask_after (ints_of 0 brackets.Parentheses (value (num 2 1) ∷ []) 1 ∷ assign_of (index_of (nam ints 0 3) (num 9 3) 3) assign.Add (num 1 2) 3 ∷ []) [] ≡ asks.Halt (halt.Trapped cause.Index 3)
unfolding scalars.converted_num scalars.reduced
past_the_end = refl

-- for (int& x : v) x = 5;
abbrev by_reference : Statement
by_reference =
    stmt (TypedStmt-F.RangeFor (spot 3) (variable 1 int 3) true (variable 0 ints 3) (assign_of (node (TypedNode-F.Reference 1) int 4) assign.Assign (num 5 4) 4))

-- for (int x : v) std::cout << x;
abbrev print_each : Statement
print_each = stmt (TypedStmt-F.RangeFor (spot 5) (variable 2 int 5) false (variable 0 ints 5) (printing (nam int 2 5)))

writes_elements : ask_after (ints_of 0 brackets.Parentheses (value (num 2 1) ∷ []) 1 ∷ by_reference ∷ print_each ∷ []) (answer.Done ∷ []) ≡ asks.Print (53 ∷ [])
unfolding scalars.converted_num scalars.reduced text.digits
writes_elements = refl

leased_by_reference : ask_after (ints_of 0 brackets.Parentheses (value (num 2 1) ∷ []) 1 ∷ object_of 3 buffer (value (nam ints 0 2) ∷ []) 2 ∷ by_reference ∷ []) (answer.Number 0 ∷ []) ≡ asks.Halt (halt.Trapped cause.Leased 4)
unfolding scalars.converted_num scalars.reduced
leased_by_reference = refl

leased_by_value : ask_after (ints_of 0 brackets.Parentheses (value (num 2 1) ∷ []) 1 ∷ object_of 3 buffer (value (nam ints 0 2) ∷ []) 2 ∷ print_each ∷ []) (answer.Number 0 ∷ []) ≡ asks.Halt (halt.Trapped cause.Leased 5)
unfolding scalars.converted_num scalars.reduced
leased_by_value = refl

-- v.push_back(8); std::cout << v[2];
pushes : ask_after (ints_of 0 brackets.Parentheses (value (num 2 1) ∷ []) 1 ∷ expr (member_of (nam ints 0 2) member.PushBack (value (num 8 2) ∷ []) thing.Void 2) 2 ∷ printing (index_of (nam ints 0 3) (num 2 3) 3) ∷ []) [] ≡ asks.Print (56 ∷ [])
unfolding scalars.converted_num scalars.reduced text.digits
pushes = refl

-- unsigned char c = 300; std::cout << c + 0;
converts : ask_after (declaration (TypedDeclaration-F.Values (declare_value (variable 0 (thing.Integer kinds.UChar) 1) (num 300 1) ∷ []) (spot 1)) ∷ printing (binary_of operators.Add (nam (thing.Integer kinds.UChar) 0 2) (num 0 2) int 2) ∷ []) [] ≡ asks.Print (52 ∷ 52 ∷ [])
unfolding scalars.converted_num scalars.reduced opwords.applied opwords.fitted kindwords.common_kind opwords.represented text.digits
converts = refl

-- ---- loops and conditions

-- for (int i = 0; i < 2; ++i) std::cout << i;
abbrev counting : List Statement
counting =
    stmt (TypedStmt-F.For (spot 1) (int_of 0 (num 0 1) 1) (Some (binary_of operators.Lt (nam int 0 1) (num 2 1) (thing.Integer kinds.Bool) 1)) (Some (full_step no_calls 99 (TypedFull-F.Plain (node (TypedNode-F.Prefix way.Increment (nam int 0 1)) int 1)))) (printing (nam int 0 2))) ∷ []

counts_up : ask_after counting (answer.Done ∷ []) ≡ asks.Print (49 ∷ [])
unfolding scalars.converted_num scalars.reduced opwords.applied opwords.fitted kindwords.common_kind opwords.represented text.digits
counts_up = refl

counts_no_further : ask_after counting (answer.Done ∷ answer.Done ∷ []) ≡ asks.Finish (pos 0)
unfolding scalars.converted_num scalars.reduced opwords.applied opwords.fitted kindwords.common_kind opwords.represented text.digits
counts_no_further = refl

-- std::cout << (0 && 1 / 0);
evaluates_what_is_needed : ask_after (printing (node (TypedNode-F.Binary (num 0 1) operator.LogicalAnd (binary_of operators.Div (num 1 1) (num 0 1) int 1)) (thing.Integer kinds.Bool) 1) ∷ []) [] ≡ asks.Print (48 ∷ [])
unfolding scalars.converted_num scalars.reduced text.digits
evaluates_what_is_needed = refl

-- ---- threads

-- std::thread t([] {});
abbrev thread_at : ℕ → Statement
thread_at n = declaration (TypedDeclaration-F.Thread (variable n thing.Thread 1) (lambda_of 5 [] [] [] 1) (spot 1))

abbrev join_at : ℕ → ℕ → Statement
join_at n l = expr (member_of (nam thing.Thread n l) member.Join [] thing.Void l) l

spawns : ask_after (thread_at 0 ∷ join_at 0 2 ∷ join_at 0 3 ∷ []) [] ≡ asks.Spawn 5 []
spawns = refl

joins : ask_after (thread_at 0 ∷ join_at 0 2 ∷ join_at 0 3 ∷ []) (answer.Number 1 ∷ []) ≡ asks.Join 1
joins = refl

joins_once : ask_after (thread_at 0 ∷ join_at 0 2 ∷ join_at 0 3 ∷ []) (answer.Number 1 ∷ answer.Done ∷ []) ≡ asks.Halt (halt.Terminated why.NotJoinable)
joins_once = refl

joinable_thread : ask_after (thread_at 0 ∷ []) (answer.Number 1 ∷ []) ≡ asks.Halt (halt.Terminated why.Joinable)
joinable_thread = refl

-- std::vector<std::thread> t; t.emplace_back([x] {}); for (auto& u : t) u.join();
abbrev team : List Statement
team =
    int_of 1 (num 7 1) 1 ∷ declaration (TypedDeclaration-F.ThreadVector (variable 0 thing.ThreadVector 1) (spot 1)) ∷ expr (member_of (nam thing.ThreadVector 0 2) member.EmplaceBack (lambda (lambda_of 6 (capture.Copy (variable 1 int 1) ∷ []) [] [] 2) ∷ []) thing.Void 2) 2 ∷ stmt (TypedStmt-F.RangeFor (spot 3) (variable 2 thing.Thread 3) true (variable 0 thing.ThreadVector 3) (join_at 2 3)) ∷ []

spawns_with_captures : ask_after team [] ≡ asks.Spawn 6 (pos 7 ∷ [])
unfolding scalars.converted_num scalars.reduced
spawns_with_captures = refl

joins_each : ask_after team (answer.Number 4 ∷ []) ≡ asks.Join 4
unfolding scalars.converted_num scalars.reduced
joins_each = refl

team_is_joined : ask_after team (answer.Number 4 ∷ answer.Done ∷ []) ≡ asks.Finish (pos 0)
unfolding scalars.converted_num scalars.reduced
team_is_joined = refl
