-- The type of an expression over what is seen of its parts, and its typed tree.
use Rattle.std.specs.Prelude.{ℕ, Bool, true, false, ◌&&◌, ◌||◌, not, if◌then◌else◌, nat_lt, List, [], ◌∷◌, ◌++◌, pos, Option, Some, None, unwrap_or}
use Rattle.std.specs.List.{list_all}
use Rattle.sy_access.specs.declared.Mode.{Mode}
use Rattle.sy_access.specs.declared.Mode.TheVariants as mode
use Rattle.sy_note.specs.declared.Spot.{Spot}
use Rattle.sy_num.specs.declared.Kind.{Kind}
use Rattle.sy_num.specs.declared.Kind.TheVariants as kind
use Rattle.sy_num.specs.declared.UnOp.{UnOp}
use Rattle.sy_num.specs.Kinds.{common_kind}
use Rattle.sy_num.specs.Operators.{result_kind, result_kind_one}
use Rattle.sy_tree.specs.declared.operators.Operator.{Operator}
use Rattle.sy_tree.specs.declared.operators.Operator.TheVariants as operator
use Rattle.sy_tree.specs.declared.parts.IntegerType.{IntegerType}
use Rattle.sy_tree.specs.declared.tree.Argument.TheOpen.{Expr-F}
use Rattle.sy_typed.specs.declared.things.Dimensions.{Dimensions}
use Rattle.sy_typed.specs.declared.things.Dimensions.TheVariants.{One, Two, Three}
use Rattle.sy_typed.specs.declared.things.Member.{Member}
use Rattle.sy_typed.specs.declared.things.Member.TheVariants as member
use Rattle.sy_typed.specs.declared.things.Thing.{Thing}
use Rattle.sy_typed.specs.declared.things.Thing.TheVariants as thing
use Rattle.sy_typed.specs.declared.tree.Typed.{Typed, roll-Typed}
use Rattle.sy_typed.specs.declared.tree.TypedNode.{TypedNode}
use Rattle.sy_typed.specs.declared.tree.TypedNode.TheVariants as node
use Rattle.sy_typed.specs.declared.tree.Variable.{Variable}
use Rattle.sy_rules.specs.declared.names.Named.{Named}
use Rattle.sy_rules.specs.declared.names.Names.{Names}
use Rattle.sy_rules.specs.declared.seen.Constant.{Constant}
use Rattle.sy_rules.specs.declared.seen.Constant.TheVariants as constant
use Rattle.sy_rules.specs.declared.seen.Denotes.{Denotes}
use Rattle.sy_rules.specs.declared.seen.Denotes.TheVariants as denotes
use Rattle.sy_rules.specs.declared.seen.Seen.{Seen}
use Rattle.sy_rules.specs.declared.seen.SeenArgument.{SeenArgument}
use Rattle.sy_rules.specs.declared.seen.SeenArgument.TheVariants as argument
use Rattle.sy_rules.specs.Calls.{returned_type, integer_of, library_row}
use Rattle.sy_rules.specs.Constants.{literal_value, number_in, converted_to, converted_to_type, unary_of, binary_of, choice_of}
use Rattle.sy_rules.specs.ExprRules.{faults, member_of, gives_in, function_of, is_whole_index, is_outside, are_error_codes, is_equality, is_data, in_known}
use Rattle.sy_rules.specs.Foreign.{is_foreign, type_start, type_of_name, foreign_uses}
use Rattle.sy_rules.specs.Layers.{SeenExpr}
use Rattle.sy_rules.specs.Literals.{literal_kind, character_value}
use Rattle.sy_rules.specs.Names.{look_up}
use Rattle.sy_rules.specs.Objects.{object_row}
use Rattle.sy_rules.specs.Outcome.{Finding, calls, uses, faults_found}
use Rattle.sy_rules.specs.Seen.{kind_of, same_kind, is_known, passes}
use Rattle.sy_rules.specs.Words.{member_named}

-- ---- integers

abbrev pub kind_of_unary : UnOp → Option Kind → Option Kind
kind_of_unary op None = None
kind_of_unary op (Some k) = Some (result_kind_one op k)

abbrev pub kind_by : Operator → Kind → Kind → Kind
kind_by (operator.Strict op) j k = result_kind op j k
kind_by operator.LogicalAnd j k = kind.Bool
kind_by operator.LogicalOr j k = kind.Bool

abbrev pub kind_of_both : (Kind → Kind → Kind) → Option Kind → Option Kind → Option Kind
kind_of_both f (Some j) (Some k) = Some (f j k)
kind_of_both f _ _ = None

-- two arms of one kind keep it (C++17, [expr.cond])
abbrev pub kind_of_arms : Kind → Kind → Kind
kind_of_arms j k = if same_kind j k then j else common_kind j k

abbrev pub type_of_binary : Operator → Seen → Seen → Option Thing
type_of_binary op a b =
    if is_equality op && are_error_codes a b then Some (thing.Integer kind.Bool) else integer_of (kind_of_both (kind_by op) (kind_of a.what) (kind_of b.what))

-- ---- indexes

-- what one more index leaves of an object with these dimensions, of which so many are left
abbrev pub with_index : Kind → Dimensions → Dimensions → Mode → Thing
with_index k d One m = thing.Integer k
with_index k d Two m = thing.Indexed k d One m
with_index k d Three m = thing.Indexed k d Two m

abbrev pub element_of : Thing → Option Thing
element_of (thing.Vector k) = Some (thing.Integer k)
element_of thing.DeviceVector = Some thing.Device
element_of thing.ThreadVector = Some thing.Thread
element_of (thing.Accessor k d m) = Some (with_index k d d m)
element_of (thing.HostAccessor k d m) = Some (with_index k d d m)
element_of (thing.LocalAccessor k d) = Some (with_index k d d mode.ReadWrite)
element_of (thing.Indexed k d l m) = Some (with_index k d l m)
element_of (thing.Range d) = Some (thing.Integer kind.ULong)
element_of (thing.Id d) = Some (thing.Integer kind.ULong)
element_of (thing.Item d) = Some (thing.Integer kind.ULong)
element_of _ = None

-- the element behind an index for all dimensions
abbrev pub whole_element : Thing → Option Thing
whole_element (thing.Accessor k d m) = Some (thing.Integer k)
whole_element (thing.HostAccessor k d m) = Some (thing.Integer k)
whole_element (thing.LocalAccessor k d) = Some (thing.Integer k)
whole_element _ = None

abbrev pub type_of_element : Seen → Seen → Option Thing
type_of_element a i = if is_whole_index a i then in_known whole_element a.what else in_known element_of a.what

-- ---- the type, where no rule is broken

abbrev pub type_of_call : Names → Option Named → Option Thing
type_of_call n None = None
type_of_call n (Some v) = elim (function_of n v) [ None ↦ None | Some f ↦ Some (returned_type f.returned) ]

abbrev pub kind_written : Option IntegerType → Option Kind
kind_written None = None
kind_written (Some t) = Some t.kind

abbrev pub type_of : Names → SeenExpr → Option Thing
type_of n (Expr-F.Integer x) = integer_of (literal_kind x.text)
type_of n (Expr-F.Character x) = Some (thing.Integer kind.Char)
type_of n (Expr-F.Boolean s b) = Some (thing.Integer kind.Bool)
type_of n (Expr-F.Name x) = type_of_name (look_up n.entries x.text)
type_of n (Expr-F.Call f xs e) = type_of_call n (look_up n.entries f.text)
type_of n (Expr-F.Parenthesized s a e) = a.what
type_of n (Expr-F.StaticCast s t a e) = Some (thing.Integer t.kind)
type_of n (Expr-F.FunctionalCast t a e) = Some (thing.Integer t.kind)
type_of n (Expr-F.Construct t b s xs e) = (object_row t xs).gives
type_of n (Expr-F.GroupBarrier q a e) = Some thing.Void
type_of n (Expr-F.AccessTag q t) = Some (thing.AccessTag t)
type_of n (Expr-F.InOrder q b e) = Some thing.InOrder
type_of n (Expr-F.ErrorCode q x) = Some thing.ErrorCode
type_of n (Expr-F.InitializeToIdentity q b e) = Some thing.InitializeToIdentity
type_of n (Expr-F.FunctionObject q f t b e) = Some (thing.FunctionObject f (kind_written t))
type_of n (Expr-F.LibraryCall q f xs e) = (library_row f xs).gives
type_of n (Expr-F.Subscript a s i e) = type_of_element a i
type_of n (Expr-F.MemberCall a x t xs e) = gives_in (member_of a.what x t xs)
type_of n (Expr-F.Postfix a s step) = integer_of (kind_of a.what)
type_of n (Expr-F.Prefix s step a) = integer_of (kind_of a.what)
type_of n (Expr-F.Unary s op a) = integer_of (kind_of_unary op (kind_of a.what))
type_of n (Expr-F.Cast s t a) = Some (thing.Integer t.kind)
type_of n (Expr-F.Binary a s op b) = type_of_binary op a b
type_of n (Expr-F.Conditional a s b c) = integer_of (kind_of_both kind_of_arms (kind_of b.what) (kind_of c.what))

-- ---- a construct has a type where no rule is broken in it

abbrev pub is_sound_argument : SeenArgument → Bool
is_sound_argument (argument.Value a) = is_known a
is_sound_argument (argument.Braced xs) = list_all is_known xs
is_sound_argument (argument.Lambda l) = l.is_sound

abbrev pub parts_are_known : SeenExpr → Bool
parts_are_known (Expr-F.Call f xs e) = list_all is_known xs
parts_are_known (Expr-F.Parenthesized s a e) = is_known a
parts_are_known (Expr-F.StaticCast s t a e) = is_known a
parts_are_known (Expr-F.FunctionalCast t a e) = is_known a
parts_are_known (Expr-F.Construct t b s xs e) = list_all is_sound_argument xs
parts_are_known (Expr-F.GroupBarrier q a e) = is_known a
parts_are_known (Expr-F.LibraryCall q f xs e) = list_all is_sound_argument xs
parts_are_known (Expr-F.Subscript a s i e) = is_known a && is_known i
parts_are_known (Expr-F.MemberCall a x t xs e) = is_known a && list_all is_sound_argument xs
parts_are_known (Expr-F.Postfix a s step) = is_known a
parts_are_known (Expr-F.Prefix s step a) = is_known a
parts_are_known (Expr-F.Unary s op a) = is_known a
parts_are_known (Expr-F.Cast s t a) = is_known a
parts_are_known (Expr-F.Binary a s op b) = is_known a && is_known b
parts_are_known (Expr-F.Conditional a s b c) = is_known a && (is_known b && is_known c)
parts_are_known _ = true

abbrev pub is_empty : {T : Type 0} → List T → Bool
is_empty [] = true
is_empty (x ∷ xs) = false

abbrev pub is_sound : Names → SeenExpr → Bool
is_sound n x = parts_are_known x && (is_empty (faults n x) && not (is_foreign n.setting.within n x))

abbrev pub if_sound : Bool → Option Thing → Option Thing
if_sound true t = t
if_sound false t = None

-- ---- what can be assigned to

abbrev pub denotes_name : Option ℕ → Option Named → Denotes
denotes_name k None = denotes.Unknown
denotes_name k (Some v) = denotes.Place (v.fixed || is_outside k v)

-- of an element, where the indexes are complete
abbrev pub denotes_element : Seen → Option Thing → Denotes
denotes_element a (Some (thing.Vector k)) = a.denotes
denotes_element a (Some (thing.Accessor k d m)) = denotes.Element m
denotes_element a (Some (thing.HostAccessor k d m)) = denotes.Element m
denotes_element a (Some (thing.LocalAccessor k d)) = denotes.Element mode.ReadWrite
denotes_element a (Some (thing.Indexed k d l m)) = denotes.Element m
denotes_element a _ = denotes.Value

abbrev pub is_element : Thing → Bool
is_element (thing.Integer k) = true
is_element _ = false

abbrev pub denotes_of : Names → SeenExpr → Denotes
denotes_of n (Expr-F.Name x) = denotes_name n.setting.kernel (look_up n.entries x.text)
denotes_of n (Expr-F.Parenthesized s a e) = a.denotes
denotes_of n (Expr-F.Subscript a s i e) = if passes is_element (type_of_element a i) then denotes_element a a.what else denotes.Value
denotes_of n (Expr-F.MemberCall a x t xs e) = if passes is_data (gives_in (member_of a.what x t xs)) then a.denotes else denotes.Value
denotes_of n _ = denotes.Value

abbrev pub if_sound_denotes : Bool → Denotes → Denotes
if_sound_denotes true d = d
if_sound_denotes false d = denotes.Unknown

-- ---- the value of a constant

abbrev pub constant_of_name : Option Named → Constant
constant_of_name None = constant.Unknown
constant_of_name (Some v) = v.constant

abbrev pub constant_of : Names → SeenExpr → Constant
constant_of n (Expr-F.Integer x) = literal_value x.text
constant_of n (Expr-F.Character x) = constant.Number (pos (character_value x.text))
constant_of n (Expr-F.Boolean s b) = constant.Number (if b then pos 1 else pos 0)
constant_of n (Expr-F.Name x) = constant_of_name (look_up n.entries x.text)
constant_of n (Expr-F.Parenthesized s a e) = a.constant
constant_of n (Expr-F.StaticCast s t a e) = converted_to t.kind a.constant
constant_of n (Expr-F.FunctionalCast t a e) = converted_to t.kind a.constant
constant_of n (Expr-F.Cast s t a) = converted_to t.kind a.constant
constant_of n (Expr-F.Unary s op a) = unary_of op (kind_of a.what) a.constant
constant_of n (Expr-F.Binary a s op b) = binary_of op a b
constant_of n (Expr-F.Conditional a s b c) =
    converted_to_type (kind_of_both kind_of_arms (kind_of b.what) (kind_of c.what)) (choice_of a.constant b.constant c.constant)
constant_of n _ = constant.Varying

abbrev pub if_sound_constant : Bool → Constant → Constant
if_sound_constant true c = c
if_sound_constant false c = constant.Unknown

-- ---- the name that it is

abbrev pub variable_numbered : Option Named → Option ℕ
variable_numbered None = None
variable_numbered (Some v) = Some v.number

abbrev pub variable_of : Names → SeenExpr → Option ℕ
variable_of n (Expr-F.Name x) = variable_numbered (look_up n.entries x.text)
variable_of n (Expr-F.Parenthesized s a e) = a.variable
variable_of n _ = None

-- `data()` counts as its vector
abbrev pub is_bare : SeenExpr → Bool
is_bare (Expr-F.Name x) = true
is_bare (Expr-F.MemberCall a x t xs e) = a.is_bare
is_bare _ = false

-- ---- the place of the first token

abbrev pub first_of : SeenExpr → Spot
first_of (Expr-F.Integer x) = x.spot
first_of (Expr-F.Character x) = x.spot
first_of (Expr-F.Boolean s b) = s
first_of (Expr-F.Name x) = x.spot
first_of (Expr-F.Call f xs e) = f.spot
first_of (Expr-F.Parenthesized s a e) = s
first_of (Expr-F.StaticCast s t a e) = s
first_of (Expr-F.FunctionalCast t a e) = t.spot
first_of (Expr-F.Construct t b s xs e) = type_start t
first_of (Expr-F.GroupBarrier q a e) = q.namespace
first_of (Expr-F.AccessTag q t) = q.namespace
first_of (Expr-F.InOrder q b e) = q.namespace
first_of (Expr-F.ErrorCode q x) = q.namespace
first_of (Expr-F.InitializeToIdentity q b e) = q.namespace
first_of (Expr-F.FunctionObject q f k b e) = q.namespace
first_of (Expr-F.LibraryCall q f xs e) = q.namespace
first_of (Expr-F.Subscript a s b e) = a.first
first_of (Expr-F.MemberCall a x t xs e) = a.first
first_of (Expr-F.Postfix a s step) = a.first
first_of (Expr-F.Prefix s step a) = s
first_of (Expr-F.Unary s op a) = s
first_of (Expr-F.Cast s t a) = s
first_of (Expr-F.Binary a s op b) = a.first
first_of (Expr-F.Conditional a s b c) = a.first

-- ---- what is seen and found of a construct

abbrev pub seen_as : Names → SeenExpr → Seen
seen_as n x = record {
  what = if_sound (is_sound n x) (type_of n x);
  first = first_of x;
  denotes = if_sound_denotes (is_sound n x) (denotes_of n x);
  constant = if_sound_constant (is_sound n x) (constant_of n x);
  variable = variable_of n x;
  is_bare = is_bare x;
}

-- a use of a local variable, and a call of a function
abbrev pub use_of : Option Named → List Finding
use_of None = []
use_of (Some v) = if nat_lt 0 v.depth then uses v ∷ [] else []

abbrev pub call_of : Names → Option Named → List Finding
call_of n None = []
call_of n (Some v) = elim v.function [ None ↦ [] | Some i ↦ calls n.setting.within i ∷ [] ]

abbrev pub uses_of : Names → SeenExpr → List Finding
uses_of n (Expr-F.Name x) = use_of (look_up n.entries x.text)
uses_of n (Expr-F.Call f xs e) = call_of n (look_up n.entries f.text)
uses_of n _ = []

abbrev pub found_at : Names → SeenExpr → List Finding
found_at n x = faults_found (faults n x) ++ (foreign_uses n x ++ uses_of n x)

-- ---- the tree, which means something only where no rule is broken

abbrev pub or_void : Option Thing → Thing
or_void None = thing.Void
or_void (Some t) = t

abbrev pub variable : ℕ → Option Thing → Spot → Variable
variable i t s = record { number = i; what = or_void t; spot = s }

abbrev pub variable_named : Named → Variable
variable_named v = variable v.number v.what v.spot

abbrev pub typed : TypedNode → Option Thing → Spot → Typed
typed x t s = roll-Typed (record { node = x; what = or_void t; spot = s })

abbrev pub node_of_local : Bool → ℕ → TypedNode
node_of_local true i = node.Reference i
node_of_local false i = node.Name i

-- a constant of the file is its value; a kernel has copies of what is outside it, of elements too
abbrev pub named_node : Option ℕ → Option Named → TypedNode
named_node k None = node.Name 0
named_node k (Some v) =
    if nat_lt 0 v.depth then node_of_local (v.names_element && not (is_outside k v)) v.number else node.Integer (number_in v.constant)

abbrev pub called_number : Option Named → ℕ
called_number None = 0
called_number (Some v) = unwrap_or v.function 0

abbrev pub member_or_wait : List ℕ → Member
member_or_wait text = unwrap_or (member_named text) member.Wait
