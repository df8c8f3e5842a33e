-- More host code, computed: calls, captures, indexes, limits and numbers of accesses.
use Rattle.std.proofs.Common.{refl}
use Rattle.std.specs.Fmt as text
use Rattle.std.specs.Prelude.{List, None, Some, [], false, pos, true, ℕ, ◌∷◌, ◌≡◌}
use Rattle.sy_access.specs.declared.access.Mode.TheVariants as mode
use Rattle.sy_num.specs.Kinds as kindwords
use Rattle.sy_num.specs.Operators as opwords
use Rattle.sy_num.specs.Scalars as scalars
use Rattle.sy_num.specs.declared.BinOp.TheVariants as operators
use Rattle.sy_num.specs.declared.Kind.TheVariants as kinds
use Rattle.sy_num.specs.declared.UnOp.TheVariants as unary_operators
use Rattle.sy_tree.specs.declared.operators.AssignmentOperator.TheVariants as assign
use Rattle.sy_tree.specs.declared.parts.Brackets.TheVariants as brackets
use Rattle.sy_tree.specs.declared.parts.Step.TheVariants as way
use Rattle.sy_typed.specs.declared.things.Dimensions.TheVariants as dimensions
use Rattle.sy_typed.specs.declared.things.Thing.{Thing}
use Rattle.sy_typed.specs.declared.things.Thing.TheVariants as thing
use Rattle.sy_typed.specs.declared.tree.TypedArgument.TheOpen.{TypedDeclaration-F, TypedNode-F, TypedStmt-F}
use Rattle.sy_typed.specs.declared.tree.TypedCapture.TheVariants as capture
use Rattle.sy_work.specs.declared.asks.Answer.{Answer}
use Rattle.sy_work.specs.declared.asks.Answer.TheVariants as answer
use Rattle.sy_work.specs.declared.asks.Ask.TheVariants as asks
use Rattle.sy_work.specs.declared.asks.Errc.TheVariants as errc
use Rattle.sy_work.specs.declared.asks.Halt.TheVariants as halt
use Rattle.sy_work.specs.declared.asks.Why.TheVariants as why
use Rattle.sy_work.specs.declared.endings.Cause.TheVariants as cause
use Rattle.sy_meaning.specs.Expressions.{Calls, Exp, value}
use Rattle.sy_meaning.specs.Statements.{Statement, declare_value}
use Rattle.sy_meaning.specs.Meaning.{node_step}
use Rattle.sy_meaning.specs.Next.{bound_all, result_of}
use Rattle.sy_meaning.proofs.Trees.{ask_after, assign_of, binary_of, buffer, compound, declaration, expr, host_type, index_of, int, int_of, ints, ints_of, lambda_of, made, nam, node, num, object_of, printing, range_of_one, spot, stmt, variable}

abbrev buffer_four : ℕ → ℕ → Statement
buffer_four n l = object_of n buffer (value (range_of_one 4 l) ∷ []) l

abbrev host_at : ℕ → ℕ → ℕ → Statement
host_at n b l = object_of n host_type (value (nam buffer b l) ∷ []) l

abbrev four : Answer
four = answer.Contents (pos 0 ∷ pos 1 ∷ pos 2 ∷ pos 3 ∷ [])

-- ---- accesses

-- buffer b; buffer c; host_accessor x{b}; host_accessor y{c};
abbrev two_accesses : List Statement
two_accesses = buffer_four 0 1 ∷ buffer_four 1 1 ∷ host_at 2 0 2 ∷ host_at 3 1 2 ∷ []

opens_all : ask_after two_accesses (answer.Number 0 ∷ answer.Number 1 ∷ []) ≡ asks.OpenHost (record { buffer = 0; mode = mode.ReadWrite; no_init = false; from = 0; to = 4 })
unfolding scalars.converted_num scalars.reduced
opens_all = refl

closes_last_first : ask_after two_accesses (answer.Number 0 ∷ answer.Number 1 ∷ four ∷ four ∷ []) ≡ asks.CloseHost 1 (pos 0 ∷ pos 1 ∷ pos 2 ∷ pos 3 ∷ [])
unfolding scalars.converted_num scalars.reduced
closes_last_first = refl

closes_first_then : ask_after two_accesses (answer.Number 0 ∷ answer.Number 1 ∷ four ∷ four ∷ answer.Done ∷ []) ≡ asks.CloseHost 0 (pos 0 ∷ pos 1 ∷ pos 2 ∷ pos 3 ∷ [])
unfolding scalars.converted_num scalars.reduced
closes_first_then = refl

-- buffer b; host_accessor x{b}; x[4] = 1;
past_the_extent : ask_after (buffer_four 0 1 ∷ host_at 1 0 2 ∷ assign_of (index_of (nam host_type 1 3) (num 4 3) 3) assign.Assign (num 1 3) 3 ∷ []) (answer.Number 0 ∷ four ∷ []) ≡ asks.Halt (halt.Trapped cause.Index 3)
unfolding scalars.converted_num scalars.reduced
past_the_extent = refl

-- buffer b; std::cout << host_accessor{b}[1] + host_accessor{b}[2];
abbrev two_temporaries : List Statement
two_temporaries =
    buffer_four 0 1 ∷ printing (binary_of operators.Add (index_of (made host_type (value (nam buffer 0 2) ∷ []) 2) (num 1 2) 2) (index_of (made host_type (value (nam buffer 0 2) ∷ []) 2) (num 2 2) 2) int 2) ∷ []

last_temporary_first : ask_after two_temporaries (answer.Number 0 ∷ four ∷ four ∷ answer.Done ∷ []) ≡ asks.CloseHost 1 (pos 0 ∷ pos 1 ∷ pos 2 ∷ pos 3 ∷ [])
unfolding scalars.converted_num scalars.reduced opwords.applied opwords.fitted kindwords.common_kind opwords.represented
last_temporary_first = refl

-- ---- indexes in two dimensions

abbrev plane : Thing
plane = thing.HostAccessor kinds.Int dimensions.Two mode.Read

abbrev part : Thing
part = thing.Indexed kinds.Int dimensions.Two dimensions.One mode.Read

abbrev wide : Thing
wide = thing.Buffer kinds.Int dimensions.Two

-- buffer<int, 2> b{range<2>{2, 2}}; host_accessor x{b, read_only}; std::cout << x[..];
abbrev in_plane : Exp → List Statement
in_plane e =
    object_of 0 wide (value (made (thing.Range dimensions.Two) (value (num 2 1) ∷ value (num 2 1) ∷ []) 1) ∷ []) 1 ∷ object_of 1 plane (value (nam wide 0 2) ∷ []) 2 ∷ printing e ∷ []

by_chain : ask_after (in_plane (index_of (node (TypedNode-F.Subscript (nam plane 1 3) (num 1 3) (spot 3)) part 3) (num 0 3) 3)) (answer.Number 0 ∷ four ∷ []) ≡ asks.Print (50 ∷ [])
unfolding scalars.converted_num scalars.reduced text.digits
by_chain = refl

by_id : ask_after (in_plane (index_of (nam plane 1 3) (made (thing.Id dimensions.Two) (value (num 1 3) ∷ value (num 1 3) ∷ []) 3) 3)) (answer.Number 0 ∷ four ∷ []) ≡ asks.Print (51 ∷ [])
unfolding scalars.converted_num scalars.reduced text.digits
by_id = refl

-- the first index is tested before the second is evaluated: x[2][1 / 0]
first_index_first : ask_after (in_plane (index_of (node (TypedNode-F.Subscript (nam plane 1 3) (num 2 3) (spot 3)) part 3) (binary_of operators.Div (num 1 4) (num 0 4) int 4) 4)) (answer.Number 0 ∷ four ∷ []) ≡ asks.Halt (halt.Trapped cause.Index 3)
unfolding scalars.converted_num scalars.reduced
first_index_first = refl

-- ---- calls

-- int f(int n) { return n + 1; } called with a value
abbrev successor : Calls
successor f os r =
    result_of (Some kinds.Int) r.frame ((compound (stmt (TypedStmt-F.Return (spot 7) (Some (binary_of operators.Add (nam int 20 7) (num 1 7) int 7)) (spot 7)) ∷ []) 7).run (bound_all (variable 20 int 7 ∷ []) os (record r { frame = [] })))

-- std::cout << f(f(40));
abbrev call_successor : Exp → Exp
call_successor e = node_step successor 99 (TypedNode-F.Call 0 (e ∷ []) (spot 1)) int (spot 1)

calls_nest : ask_after (printing (call_successor (call_successor (num 40 1))) ∷ []) [] ≡ asks.Print (52 ∷ 50 ∷ [])
unfolding scalars.converted_num scalars.reduced opwords.applied opwords.fitted kindwords.common_kind opwords.represented text.digits
calls_nest = refl

-- unsigned char x = f(255);
result_is_converted : ask_after (declaration (TypedDeclaration-F.Values (declare_value (variable 0 (thing.Integer kinds.UChar) 1) (call_successor (num 255 1)) ∷ []) (spot 1)) ∷ printing (binary_of operators.Add (nam (thing.Integer kinds.UChar) 0 2) (num 5 2) int 2) ∷ []) [] ≡ asks.Print (53 ∷ [])
unfolding scalars.converted_num scalars.reduced opwords.applied opwords.fitted kindwords.common_kind opwords.represented text.digits
result_is_converted = refl

-- ---- captures

-- std::vector<int> v{7, 8}; for (int& x : v) std::thread t([x] {});
captures_element : ask_after (ints_of 0 brackets.Braces (value (num 7 1) ∷ value (num 8 1) ∷ []) 1 ∷ stmt (TypedStmt-F.RangeFor (spot 2) (variable 1 int 2) true (variable 0 ints 2) (declaration (TypedDeclaration-F.Thread (variable 2 thing.Thread 3) (lambda_of 5 (capture.Element (variable 1 int 2) ∷ []) [] [] 3) (spot 3)))) ∷ []) [] ≡ asks.Spawn 5 (pos 7 ∷ [])
unfolding scalars.converted_num scalars.reduced
captures_element = refl

-- buffer b; std::thread t([&] {..});
captures_buffer : ask_after (buffer_four 0 1 ∷ declaration (TypedDeclaration-F.Thread (variable 2 thing.Thread 3) (lambda_of 5 (capture.Reference (variable 0 buffer 1) ∷ []) [] [] 3) (spot 3)) ∷ []) (answer.Number 6 ∷ []) ≡ asks.Spawn 5 (pos 6 ∷ pos 6 ∷ pos 0 ∷ pos 4 ∷ [])
unfolding scalars.converted_num scalars.reduced
captures_buffer = refl

-- ---- limits

-- context c;
context_limit : ask_after (object_of 0 thing.Context [] 1 ∷ []) (answer.Refused errc.Runtime ∷ []) ≡ asks.Halt (halt.Terminated (why.Errc errc.Runtime))
context_limit = refl

-- ---- loops

-- int i = 0; do { ++i; if (i == 1) continue; break; } while (i < 5); std::cout << i;
continues : ask_after (int_of 0 (num 0 1) 1 ∷ stmt (TypedStmt-F.Do (spot 2) (compound (expr (node (TypedNode-F.Prefix way.Increment (nam int 0 3)) int 3) 3 ∷ stmt (TypedStmt-F.If (spot 4) (binary_of operators.Eq (nam int 0 4) (num 1 4) (thing.Integer kinds.Bool) 4) (stmt (TypedStmt-F.Continue (spot 4) (spot 4))) None) ∷ stmt (TypedStmt-F.Break (spot 5) (spot 5)) ∷ []) 6) (binary_of operators.Lt (nam int 0 6) (num 5 6) (thing.Integer kinds.Bool) 6) (spot 6)) ∷ printing (nam int 0 7) ∷ []) [] ≡ asks.Print (50 ∷ [])
unfolding scalars.converted_num scalars.reduced opwords.applied opwords.fitted kindwords.common_kind opwords.represented text.digits
continues = refl

-- for (buffer b{..}; true; ) break; std::cout << 7;
break_leaves_the_head : ask_after (stmt (TypedStmt-F.For (spot 1) (buffer_four 0 1) None None (stmt (TypedStmt-F.Break (spot 2) (spot 2)))) ∷ printing (num 7 3) ∷ []) (answer.Number 4 ∷ []) ≡ asks.EndBuffer 4
unfolding scalars.converted_num scalars.reduced
break_leaves_the_head = refl

-- ---- what is printed

-- std::cout << 'a';
prints_byte : ask_after (printing (node (TypedNode-F.Character (pos 97)) (thing.Integer kinds.Char) 1) ∷ []) [] ≡ asks.Print (97 ∷ [])
unfolding scalars.reduced
prints_byte = refl

-- std::cout << true;
prints_bool : ask_after (printing (node (TypedNode-F.Boolean true) (thing.Integer kinds.Bool) 1) ∷ []) [] ≡ asks.Print (49 ∷ [])
unfolding scalars.reduced text.digits
prints_bool = refl

-- std::cout << (0 ? 1 : -2);
prints_negative : ask_after (printing (node (TypedNode-F.Conditional (num 0 1) (num 1 1) (node (TypedNode-F.Unary unary_operators.Minus (num 2 1)) int 1)) int 1) ∷ []) [] ≡ asks.Print (45 ∷ 50 ∷ [])
unfolding scalars.converted_num scalars.reduced opwords.applied_one opwords.fitted opwords.represented text.digits
prints_negative = refl
