-- Small bodies of host code, computed: what they ask after some answers.
use Rattle.std.proofs.Common.{refl}
use Rattle.std.specs.Fmt as text
use Rattle.std.specs.Prelude.{List, None, Some, [], pos, ◌∷◌, ◌≡◌}
use Rattle.sy_num.specs.Kinds as kindwords
use Rattle.sy_num.specs.Operators as opwords
use Rattle.sy_num.specs.Scalars as scalars
use Rattle.sy_num.specs.declared.BinOp.TheVariants as operators
use Rattle.sy_num.specs.declared.Kind.TheVariants as kinds
use Rattle.sy_tree.specs.declared.operators.AssignmentOperator.TheVariants as assign
use Rattle.sy_tree.specs.declared.parts.Brackets.TheVariants as brackets
use Rattle.sy_typed.specs.declared.tree.TypedArgument.TheOpen.{TypedStmt-F}
use Rattle.sy_work.specs.declared.asks.Answer.TheVariants as answer
use Rattle.sy_work.specs.declared.asks.Ask.TheVariants as asks
use Rattle.sy_work.specs.declared.asks.Errc.TheVariants as errc
use Rattle.sy_work.specs.declared.asks.Halt.TheVariants as halt
use Rattle.sy_work.specs.declared.asks.Why.TheVariants as why
use Rattle.sy_work.specs.declared.endings.Cause.TheVariants as cause
use Rattle.sy_meaning.specs.Expressions.{value}
use Rattle.sy_meaning.specs.Statements.{Statement}
use Rattle.sy_meaning.proofs.Trees.{ask_after, assign_of, binary_of, buffer, compound, index_of, int, ints, ints_of, nam, num, object_of, printing, range_of_one, spot, stmt}

-- std::cout << 40 + 2;
abbrev sum_of_two : List Statement
sum_of_two = printing (binary_of operators.Add (num 40 1) (num 2 1) int 1) ∷ []

prints_sum : ask_after sum_of_two [] ≡ asks.Print (52 ∷ 50 ∷ [])
unfolding scalars.converted_num scalars.reduced opwords.applied opwords.fitted kindwords.common_kind opwords.represented text.digits
prints_sum = refl

then_finishes : ask_after sum_of_two (answer.Done ∷ []) ≡ asks.Finish (pos 0)
unfolding scalars.converted_num scalars.reduced opwords.applied opwords.fitted kindwords.common_kind opwords.represented
then_finishes = refl

-- std::cout << 2147483647 + 1;
overflows : ask_after (printing (binary_of operators.Add (num 2147483647 1) (num 1 1) int 1) ∷ []) [] ≡ asks.Halt (halt.Trapped cause.Overflow 1)
unfolding scalars.converted_num scalars.reduced opwords.applied opwords.fitted kindwords.common_kind opwords.represented
overflows = refl

-- return 300;
returns_value : ask_after (stmt (TypedStmt-F.Return (spot 2) (Some (num 300 2)) (spot 2)) ∷ []) [] ≡ asks.Finish (pos 300)
unfolding scalars.converted_num scalars.reduced
returns_value = refl

-- while (1) {}
spends_turns : ask_after (stmt (TypedStmt-F.While (spot 4) (num 1 4) (compound [] 5)) ∷ []) [] ≡ asks.Halt (halt.TurnsSpent 4)
unfolding scalars.reduced
spends_turns = refl

-- ---- buffers and their ends

-- buffer<int> b{range<1>{4}};
abbrev one_buffer : List Statement
one_buffer = object_of 0 buffer (value (range_of_one 4 2) ∷ []) 2 ∷ []

makes_buffer : ask_after one_buffer [] ≡ asks.MakeBuffer (record { kind = kinds.Int; range = 4 ∷ []; init = None })
unfolding scalars.converted_num scalars.reduced
makes_buffer = refl

ends_buffer : ask_after one_buffer (answer.Number 7 ∷ []) ≡ asks.EndBuffer 7
unfolding scalars.converted_num scalars.reduced
ends_buffer = refl

uncaught : ask_after one_buffer (answer.Refused errc.MemoryAllocation ∷ []) ≡ asks.Halt (halt.Terminated (why.Errc errc.MemoryAllocation))
unfolding scalars.converted_num scalars.reduced
uncaught = refl

-- std::vector<int> v(3); buffer b{v}; v[1] = 5;
abbrev leased : List Statement
leased =
    ints_of 0 brackets.Parentheses (value (num 3 1) ∷ []) 1 ∷ object_of 1 buffer (value (nam ints 0 2) ∷ []) 2 ∷ assign_of (index_of (nam ints 0 4) (num 1 4) 4) assign.Assign (num 5 4) 4 ∷ []

makes_over : ask_after leased [] ≡ asks.MakeBuffer (record { kind = kinds.Int; range = 3 ∷ []; init = Some (pos 0 ∷ pos 0 ∷ pos 0 ∷ []) })
unfolding scalars.converted_num scalars.reduced
makes_over = refl

traps_leased : ask_after leased (answer.Number 0 ∷ []) ≡ asks.Halt (halt.Trapped cause.Leased 4)
unfolding scalars.converted_num scalars.reduced
traps_leased = refl

-- std::vector<int> v{3, 7}; buffer b{v};
values_in_braces : ask_after (ints_of 0 brackets.Braces (value (num 3 1) ∷ value (num 7 1) ∷ []) 1 ∷ object_of 1 buffer (value (nam ints 0 2) ∷ []) 2 ∷ []) [] ≡ asks.MakeBuffer (record { kind = kinds.Int; range = 2 ∷ []; init = Some (pos 3 ∷ pos 7 ∷ []) })
unfolding scalars.converted_num scalars.reduced
values_in_braces = refl

-- { std::vector<int> v(1); { buffer b{v}; } std::cout << v[0]; }
abbrev written_back : List Statement
written_back =
    ints_of 0 brackets.Parentheses (value (num 1 1) ∷ []) 1 ∷ compound (object_of 1 buffer (value (nam ints 0 2) ∷ []) 2 ∷ []) 3 ∷ printing (index_of (nam ints 0 4) (num 0 4) 4) ∷ []

gives_contents_back : ask_after written_back (answer.Number 0 ∷ answer.Contents (pos 9 ∷ []) ∷ []) ≡ asks.Print (57 ∷ [])
unfolding scalars.converted_num scalars.reduced text.digits
gives_contents_back = refl
