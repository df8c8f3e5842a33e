-- Kernels, computed: what a command does on its inputs. The captured accessor names four elements of root 2.
use Rattle.sy_meaning.specs.Library.{local_id}
use Rattle.std.proofs.Common.{refl}
use Rattle.std.specs.Prelude.{Bool, List, None, Some, [], false, neg_ℤ, pos, true, ℕ, ℤ, ◌++◌, ◌∷◌, ◌≡◌, map, length}
use Rattle.sy_access.specs.Logs as logs
use Rattle.sy_access.specs.declared.access.Mode.TheVariants as mode
use Rattle.sy_access.specs.declared.cells.Cell.TheVariants as cell
use Rattle.sy_num.specs.Kinds as kindwords
use Rattle.sy_num.specs.Operators as opwords
use Rattle.sy_num.specs.Scalars as scalars
use Rattle.sy_num.specs.declared.BinOp.TheVariants as operators
use Rattle.sy_num.specs.declared.Kind.TheVariants as kinds
use Rattle.sy_tree.specs.declared.operators.AssignmentOperator.{AssignmentOperator}
use Rattle.sy_tree.specs.declared.operators.AssignmentOperator.TheVariants as assign
use Rattle.sy_tree.specs.declared.parts.FunctionObject.{FunctionObject}
use Rattle.sy_tree.specs.declared.parts.FunctionObject.TheVariants as functions
use Rattle.sy_tree.specs.declared.parts.LibraryFunction.{LibraryFunction}
use Rattle.sy_tree.specs.declared.parts.LibraryFunction.TheVariants as library
use Rattle.sy_typed.specs.declared.things.Dimensions.TheVariants as dimensions
use Rattle.sy_typed.specs.declared.things.Member.TheVariants as member
use Rattle.sy_typed.specs.declared.things.Thing.{Thing}
use Rattle.sy_typed.specs.declared.things.Thing.TheVariants as thing
use Rattle.sy_typed.specs.declared.tree.TypedArgument.TheOpen.{TypedNode-F, TypedStmt-F}
use Rattle.sy_typed.specs.declared.tree.TypedCapture.{TypedCapture}
use Rattle.sy_typed.specs.declared.tree.TypedCapture.TheVariants as capture
use Rattle.sy_work.specs.Moves.{writes_from}
use Rattle.sy_work.specs.declared.commands.Command.{Command}
use Rattle.sy_work.specs.declared.commands.Command.TheVariants as commands
use Rattle.sy_work.specs.declared.commands.Outcome.{Outcome}
use Rattle.sy_work.specs.declared.commands.Outcome.TheVariants as outcomes
use Rattle.sy_work.specs.declared.endings.Cause.{Cause}
use Rattle.sy_work.specs.declared.endings.Cause.TheVariants as cause
use Rattle.sy_meaning.specs.Combining.{operator_of}
use Rattle.sy_meaning.specs.Expressions.{Exp, value}
use Rattle.sy_meaning.specs.Statements.{Statement}
use Rattle.sy_meaning.specs.Kernels.{Items, outcome, plain_groups, nd_group, nd_groups, log_of}
use Rattle.sy_meaning.proofs.Trees.{accessor_type, assign_of, binary_of, compound, expr, index_of, int, int_of, items_with, kernel_on, member_of, nam, node, num, size_t, spot, stmt, variable, zeros}

abbrev accessor_words : ℕ → List ℤ
accessor_words n = pos 2 ∷ pos 0 ∷ pos n ∷ []

abbrev takes_accessor : List TypedCapture
takes_accessor = capture.Copy (variable 2 accessor_type 3) ∷ []

abbrev id_type : Thing
id_type = thing.Id dimensions.One

abbrev nd_item : Thing
nd_item = thing.NdItem dimensions.One

abbrev with_id : List Statement → Items
with_id ss = items_with takes_accessor (variable 3 id_type 4 ∷ []) ss

abbrev with_nd_item : List Statement → Items
with_nd_item ss = items_with takes_accessor (variable 3 nd_item 4 ∷ []) ss

abbrev over_plain : ℕ → Command
over_plain n = commands.Plain (n ∷ []) (kernel_on (accessor_words 4) [])

abbrev over_nd : ℕ → ℕ → Command
over_nd n m = commands.Nd (record { global = n ∷ []; local = m ∷ [] }) (kernel_on (accessor_words 4) [])

abbrev wrote : List ℤ → Outcome
wrote zs = outcomes.Wrote (writes_from 2 0 zs)

abbrev fails_at : ℕ → ℕ → Cause → Outcome
fails_at i line c = outcomes.Failed (record { item = i; line = line; cause = c })

-- a[..] op= ..
abbrev cell_at : Exp → ℕ → Exp
cell_at i l = index_of (nam accessor_type 2 l) i l

abbrev put_cell : Exp → AssignmentOperator → Exp → ℕ → Statement
put_cell i op e l = assign_of (cell_at i l) op e l

abbrev the_id : ℕ → Exp
the_id l = nam id_type 3 l

-- ---- plain ranges

-- a[i] += 2;
adds_two : outcome (with_id (put_cell (the_id 4) assign.Add (num 2 4) 4 ∷ [])) (over_plain 4) (zeros 4) ≡ wrote (pos 2 ∷ pos 2 ∷ pos 2 ∷ pos 2 ∷ [])
unfolding scalars.converted_num scalars.reduced opwords.applied opwords.fitted kindwords.common_kind opwords.represented logs.same_cell
adds_two = refl

-- a[0] = 1;
clash_between_items : outcome (with_id (put_cell (num 0 4) assign.Assign (num 1 4) 4 ∷ [])) (over_plain 2) (zeros 4) ≡ fails_at 1 4 (cause.Clash (cell.Buffer 2 0))
unfolding scalars.converted_num scalars.reduced logs.same_cell
clash_between_items = refl

-- a[i] = 100 / (2 - i);
traps_at_its_item : outcome (with_id (put_cell (the_id 4) assign.Assign (binary_of operators.Div (num 100 4) (binary_of operators.Sub (num 2 4) (the_id 4) size_t 4) size_t 5) 4 ∷ [])) (over_plain 4) (zeros 4) ≡ fails_at 2 5 cause.ZeroDivisor
unfolding scalars.converted_num scalars.reduced opwords.applied opwords.fitted opwords.quotient kindwords.common_kind opwords.represented logs.same_cell
traps_at_its_item = refl

-- while (true) {}
spends_its_turns : outcome (with_id (stmt (TypedStmt-F.While (spot 7) (num 1 7) (compound [] 7)) ∷ [])) (over_plain 1) (zeros 4) ≡ fails_at 0 7 cause.Turns
unfolding scalars.converted_num scalars.reduced
spends_its_turns = refl

-- ---- work-groups

-- it.get_local_id(0)
abbrev local_id_at : ℕ → Exp
local_id_at l = member_of (nam nd_item 3 l) member.GetLocalId (value (num 0 l) ∷ []) size_t l

abbrev global_id_at : ℕ → Exp
global_id_at l = member_of (nam nd_item 3 l) member.GetGlobalId (value (num 0 l) ∷ []) size_t l

abbrev group_at : ℕ → Exp
group_at l = member_of (nam nd_item 3 l) member.GetGroup [] (thing.Group dimensions.One) l

-- group_barrier(it.get_group());
abbrev barrier_at : ℕ → Statement
barrier_at l = expr (node (TypedNode-F.GroupBarrier (group_at l) (spot l)) thing.Void l) l

-- a[it.get_local_id(0)] = 1; in groups of two
clash_between_groups : outcome (with_nd_item (put_cell (local_id_at 4) assign.Assign (num 1 4) 4 ∷ [])) (over_nd 4 2) (zeros 4) ≡ fails_at 2 4 (cause.Clash (cell.Buffer 2 0))
unfolding scalars.converted_num scalars.reduced logs.same_cell
clash_between_groups = refl

-- if (it.get_local_id(0) < 1) group_barrier(it.get_group());
divergent_barrier : outcome (with_nd_item (stmt (TypedStmt-F.If (spot 4) (binary_of operators.Lt (local_id_at 4) (num 1 4) (thing.Integer kinds.Bool) 4) (barrier_at 5) None) ∷ [])) (over_nd 2 2) (zeros 4) ≡ fails_at 1 5 cause.Divergence
unfolding scalars.converted_num scalars.reduced opwords.applied kindwords.common_kind
divergent_barrier = refl

abbrev minus : Exp → Exp → ℕ → Exp
minus a b l = binary_of operators.Sub a b size_t l

-- l[k] = a[g]; group_barrier(it.get_group()); a[g] = l[1 - k];
abbrev local_type : Thing
local_type = thing.LocalAccessor kinds.Int dimensions.One

abbrev local_cell : Exp → ℕ → Exp
local_cell i l = index_of (nam local_type 4 l) i l

abbrev reversing : List Statement
reversing =
    assign_of (local_cell (local_id_at 4) 4) assign.Assign (cell_at (global_id_at 4) 4) 4 ∷ barrier_at 5 ∷ put_cell (global_id_at 6) assign.Assign (local_cell (minus (num 1 6) (local_id_at 6) 6) 6) 6 ∷ []

abbrev reversing_items : Items
reversing_items =
    items_with (capture.Copy (variable 2 accessor_type 3) ∷ capture.Copy (variable 4 local_type 3) ∷ []) (variable 3 nd_item 4 ∷ []) reversing

reverses_in_groups : outcome reversing_items (commands.Nd (record { global = 4 ∷ []; local = 2 ∷ [] }) (kernel_on (accessor_words 4 ++ pos 0 ∷ pos 0 ∷ pos 2 ∷ []) (2 ∷ []))) ((2, 0, pos 0 ∷ pos 1 ∷ pos 2 ∷ pos 3 ∷ []) ∷ []) ≡ wrote (pos 1 ∷ pos 0 ∷ pos 3 ∷ pos 2 ∷ [])
unfolding scalars.converted_num scalars.reduced opwords.applied opwords.fitted kindwords.common_kind opwords.represented logs.same_cell
reverses_in_groups = refl

-- the same without the barrier
races : outcome (with_nd_item (put_cell (global_id_at 4) assign.Assign (num 7 4) 4 ∷ put_cell (num 3 6) assign.Assign (cell_at (minus (num 1 6) (local_id_at 6) 6) 5) 6 ∷ [])) (over_nd 2 2) (zeros 4) ≡ fails_at 1 4 (cause.Clash (cell.Buffer 2 1))
unfolding scalars.converted_num scalars.reduced opwords.applied opwords.fitted kindwords.common_kind opwords.represented logs.same_cell
races = refl

-- ---- group functions

-- inclusive_scan_over_group(it.get_group(), x, plus<int>())
abbrev over_group : LibraryFunction → Exp → ℕ → Exp
over_group f x l =
    node (TypedNode-F.LibraryCall f (value (group_at l) ∷ value x ∷ value (node (TypedNode-F.FunctionObject functions.Plus (Some kinds.Int) (spot l)) (thing.FunctionObject functions.Plus (Some kinds.Int)) l) ∷ []) (spot l)) int l

-- a[g] = inclusive_scan_over_group(it.get_group(), a[g] + 1, plus<int>());
abbrev scanning : LibraryFunction → List Statement
scanning f =
    put_cell (global_id_at 4) assign.Assign (over_group f (binary_of operators.Add (cell_at (global_id_at 4) 4) (num 1 4) int 4) 4) 4 ∷ []

inclusive_scan : outcome (with_nd_item (scanning library.InclusiveScanOverGroup)) (over_nd 4 2) (zeros 4) ≡ wrote (pos 1 ∷ pos 2 ∷ pos 1 ∷ pos 2 ∷ [])
unfolding scalars.converted_num scalars.reduced opwords.applied opwords.fitted kindwords.common_kind opwords.represented logs.same_cell
inclusive_scan = refl

exclusive_scan : outcome (with_nd_item (scanning library.ExclusiveScanOverGroup)) (over_nd 4 2) (zeros 4) ≡ wrote (pos 0 ∷ pos 1 ∷ pos 0 ∷ pos 1 ∷ [])
unfolding scalars.converted_num scalars.reduced opwords.applied opwords.fitted kindwords.common_kind opwords.represented logs.same_cell
exclusive_scan = refl

group_sum : outcome (with_nd_item (scanning library.ReduceOverGroup)) (over_nd 4 4) (zeros 4) ≡ wrote (pos 4 ∷ pos 4 ∷ pos 4 ∷ pos 4 ∷ [])
unfolding scalars.converted_num scalars.reduced opwords.applied opwords.fitted kindwords.common_kind opwords.represented logs.same_cell
group_sum = refl

-- int y = reduce_over_group(it.get_group(), 2147483647, plus<int>());
group_sum_overflows : outcome (with_nd_item (int_of 5 (over_group library.ReduceOverGroup (num 2147483647 6) 6) 6 ∷ [])) (over_nd 4 4) (zeros 4) ≡ fails_at 1 6 cause.Overflow
unfolding scalars.converted_num scalars.reduced opwords.applied opwords.fitted kindwords.common_kind opwords.represented
group_sum_overflows = refl

-- a[g] = group_broadcast(it.get_group(), k, n);
abbrev broadcasting : ℕ → List Statement
broadcasting n =
    put_cell (global_id_at 4) assign.Assign (node (TypedNode-F.LibraryCall library.GroupBroadcast (value (group_at 4) ∷ value (local_id_at 4) ∷ value (num n 4) ∷ []) (spot 5)) size_t 5) 4 ∷ []

broadcasts : outcome (with_nd_item (broadcasting 1)) (over_nd 4 2) (zeros 4) ≡ wrote (pos 1 ∷ pos 1 ∷ pos 1 ∷ pos 1 ∷ [])
unfolding scalars.converted_num scalars.reduced logs.same_cell
broadcasts = refl

no_such_item : outcome (with_nd_item (broadcasting 2)) (over_nd 4 2) (zeros 4) ≡ fails_at 0 5 cause.Index
unfolding scalars.converted_num scalars.reduced
no_such_item = refl

-- ---- reductions

abbrev reduction_on : ℕ → FunctionObject → Bool → Command
reduction_on n f keep =
    commands.Reduce (record { range = record { global = n ∷ []; local = [] }; plain = true; kernel = kernel_on [] []; need = 0; op = operator_of f; kind = kinds.Int; keep = keep; line = 8 })

-- [=](id<1> i, auto& t) { .. }
abbrev with_reducer : FunctionObject → List Statement → Items
with_reducer f ss = items_with [] (variable 3 id_type 4 ∷ variable 4 (thing.Reducer kinds.Int f) 4 ∷ []) ss

-- t.combine(int(i) - 9);
abbrev combining : List Statement
combining =
    expr (member_of (nam (thing.Reducer kinds.Int functions.Maximum) 4 5) member.Combine (value (binary_of operators.Sub (node (TypedNode-F.FunctionalCast (the_id 5) (spot 5)) int 5) (num 9 5) int 5) ∷ []) thing.Void 5) 5 ∷ []

maximum_of_items : outcome (with_reducer functions.Maximum combining) (reduction_on 5 functions.Maximum false) (zeros 1) ≡ wrote (neg_ℤ (pos 5) ∷ [])
unfolding scalars.converted_num scalars.reduced opwords.applied opwords.fitted kindwords.common_kind opwords.represented logs.same_cell
maximum_of_items = refl

former_value_takes_part : outcome (with_reducer functions.Maximum combining) (reduction_on 5 functions.Maximum true) (zeros 1) ≡ wrote (pos 0 ∷ [])
unfolding scalars.converted_num scalars.reduced opwords.applied opwords.fitted kindwords.common_kind opwords.represented logs.same_cell
former_value_takes_part = refl

-- t += 2147483647;
sum_of_items_overflows : outcome (with_reducer functions.Plus (assign_of (nam (thing.Reducer kinds.Int functions.Plus) 4 5) assign.Add (num 2147483647 5) 5 ∷ [])) (reduction_on 2 functions.Plus true) (zeros 1) ≡ fails_at 1 8 cause.Overflow
unfolding scalars.converted_num scalars.reduced opwords.applied opwords.fitted kindwords.common_kind opwords.represented logs.same_cell
sum_of_items_overflows = refl

-- ---- two dimensions

-- [=](item<2> it) { a[it[0]][it[1]] = it.get_linear_id(); }
abbrev item_type : Thing
item_type = thing.Item dimensions.Two

abbrev plane : Thing
plane = thing.Accessor kinds.Int dimensions.Two mode.Write

abbrev coordinate_of : ℕ → Exp
coordinate_of k = node (TypedNode-F.Subscript (nam item_type 3 4) (num k 4) (spot 4)) size_t 4

abbrev row_of_plane : Exp
row_of_plane =
    node (TypedNode-F.Subscript (nam plane 2 4) (coordinate_of 0) (spot 4)) (thing.Indexed kinds.Int dimensions.Two dimensions.One mode.Write) 4

abbrev filling : List Statement
filling =
    assign_of (index_of row_of_plane (coordinate_of 1) 4) assign.Assign (member_of (nam item_type 3 4) member.GetLinearId [] size_t 4) 4 ∷ []

two_dimensions : outcome (items_with (capture.Copy (variable 2 plane 3) ∷ []) (variable 3 item_type 4 ∷ []) filling) (commands.Plain (2 ∷ 3 ∷ []) (kernel_on (pos 2 ∷ pos 0 ∷ pos 2 ∷ pos 3 ∷ []) [])) (zeros 6) ≡ wrote (pos 0 ∷ pos 1 ∷ pos 2 ∷ pos 3 ∷ pos 4 ∷ pos 5 ∷ [])
unfolding scalars.converted_num scalars.reduced logs.same_cell
two_dimensions = refl

-- ---- which items are in which group

groups_of_64 : map length (plain_groups (130 ∷ [])) ≡ 64 ∷ 64 ∷ 2 ∷ []
groups_of_64 = refl

no_groups : plain_groups (0 ∷ []) ≡ []
no_groups = refl

-- the group (1, 0) of two by two items in a range of four by four
items_of_a_group : map (λ p. p.item) (nd_group (4 ∷ 4 ∷ []) (2 ∷ 2 ∷ []) (1 ∷ 0 ∷ [])) ≡ 8 ∷ 9 ∷ 12 ∷ 13 ∷ []
items_of_a_group = refl

local_ids_of_a_group : map local_id (nd_group (4 ∷ 4 ∷ []) (2 ∷ 2 ∷ []) (1 ∷ 0 ∷ [])) ≡ (0 ∷ 0 ∷ []) ∷ (0 ∷ 1 ∷ []) ∷ (1 ∷ 0 ∷ []) ∷ (1 ∷ 1 ∷ []) ∷ []
local_ids_of_a_group = refl

four_groups : length (nd_groups (4 ∷ 4 ∷ []) (2 ∷ 2 ∷ [])) ≡ 4
four_groups = refl

-- each cell once, with its last number, in the order of first writes
log_in_order : log_of ((cell.Buffer 2 5, pos 1) ∷ (cell.Local 0 0, pos 7) ∷ (cell.Buffer 2 1, pos 2) ∷ (cell.Buffer 2 5, pos 3) ∷ []) ≡ (cell.Buffer 2 5, pos 3) ∷ (cell.Buffer 2 1, pos 2) ∷ []
unfolding logs.same_cell
log_in_order = refl
