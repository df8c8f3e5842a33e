-- The rules of typing at expressions. Each names the places at which a construct breaks it.
use Rattle.std.specs.Prelude.{ℕ, Bool, true, false, ◌&&◌, ◌||◌, not, if◌then◌else◌, nat_lt, nat_le, nat_eq, List, [], ◌∷◌, ◌++◌, Option, Some, None, is_some, is_none, flat_map}
use Rattle.std.specs.List.{list_any}
use Rattle.sy_note.specs.declared.Code.TheVariants as code
use Rattle.sy_note.specs.declared.Diagnostic.{Diagnostic}
use Rattle.sy_note.specs.declared.Spot.{Spot}
use Rattle.sy_num.specs.declared.BinOp.TheVariants as binary
use Rattle.sy_tree.specs.declared.operators.Operator.{Operator}
use Rattle.sy_tree.specs.declared.operators.Operator.TheVariants as operator
use Rattle.sy_tree.specs.declared.parts.Lexeme.{Lexeme}
use Rattle.sy_tree.specs.declared.parts.ObjectType.{ObjectType}
use Rattle.sy_tree.specs.declared.parts.ObjectType.TheVariants as object
use Rattle.sy_tree.specs.declared.parts.TemplateArgument.{TemplateArgument}
use Rattle.sy_tree.specs.declared.tree.Argument.TheOpen.{Expr-F}
use Rattle.sy_typed.specs.declared.things.Dimensions.{Dimensions}
use Rattle.sy_typed.specs.declared.things.Dimensions.TheVariants.{One}
use Rattle.sy_typed.specs.declared.things.Member.{Member}
use Rattle.sy_typed.specs.declared.things.Member.TheVariants as member
use Rattle.sy_typed.specs.declared.things.Thing.{Thing}
use Rattle.sy_typed.specs.declared.things.Thing.TheVariants as thing
use Rattle.sy_rules.specs.declared.names.Named.{Named}
use Rattle.sy_rules.specs.declared.names.Names.{Names}
use Rattle.sy_rules.specs.declared.names.Signature.{Signature}
use Rattle.sy_rules.specs.declared.names.Taken.{Taken}
use Rattle.sy_rules.specs.declared.names.Taken.TheVariants as taken
use Rattle.sy_rules.specs.declared.names.ThreadScope.{ThreadScope}
use Rattle.sy_rules.specs.declared.seen.Seen.{Seen}
use Rattle.sy_rules.specs.declared.library.Fit.{Fit}
use Rattle.sy_rules.specs.declared.library.Fit.TheVariants.{Fits, WrongDimension, WrongArguments, WrongElement}
use Rattle.sy_rules.specs.declared.library.Row.{Row}
use Rattle.sy_rules.specs.declared.seen.SeenArgument.{SeenArgument}
use Rattle.sy_rules.specs.declared.seen.SeenArgument.TheVariants as argument
use Rattle.sy_rules.specs.Calls.{all_passed, takes_references, signature_at, library_row, is_group, is_reduction_call, is_const}
use Rattle.sy_rules.specs.Faults.{at}
use Rattle.sy_rules.specs.Foreign.{is_foreign, is_host, made_in_host, type_start, type_word, type_of_name}
use Rattle.sy_rules.specs.Layers.{SeenExpr}
use Rattle.sy_rules.specs.Literals.{literal_kind, dimensions_written}
use Rattle.sy_rules.specs.Members.{member_row, row_with}
use Rattle.sy_rules.specs.Names.{look_up}
use Rattle.sy_rules.specs.Objects.{object_row}
use Rattle.sy_rules.specs.Seen.{when, fails, passes, is_integer, is_error_code, is_reducer, index_dimensions, same_dimensions, no_integer, if_bool, no_target, unread, unwritten}
use Rattle.sy_rules.specs.Words.{error_named, member_named}

-- ---- UnknownName: a name that isn't declared before, or isn't an error's

abbrev pub unknown_name : Names → SeenExpr → List Spot
unknown_name n (Expr-F.Name x) = when (is_none (look_up n.entries x.text)) x.spot
unknown_name n (Expr-F.Call f xs e) = when (is_none (look_up n.entries f.text)) f.spot
unknown_name n (Expr-F.ErrorCode q x) = when (is_none (error_named x.text)) x.spot
unknown_name n _ = []

-- ---- literals in `< >`

abbrev pub if_written : (Lexeme → List Spot) → Option Lexeme → List Spot
if_written f None = []
if_written f (Some x) = f x

-- the one in a type, if there is one
abbrev pub in_type : (Lexeme → List Spot) → ObjectType → List Spot
in_type f (object.LocalAccessor q t) = if_written f t.dimensions
in_type f (object.Buffer q (Some t)) = if_written f t.dimensions
in_type f (object.Range q d) = if_written f d
in_type f (object.Id q d) = if_written f d
in_type f (object.NdRange q d) = if_written f d
in_type f _ = []

-- ---- BadLiteral: a literal that no kind of its list holds

abbrev pub wide_literal : Lexeme → List Spot
wide_literal x = when (is_none (literal_kind x.text)) x.spot

abbrev pub bad_literal : SeenExpr → List Spot
bad_literal (Expr-F.Integer x) = wide_literal x
bad_literal (Expr-F.Construct t b s xs e) = in_type wide_literal t
bad_literal _ = []

-- ---- what the library makes of arguments

abbrev pub is_wrong_dimension : Fit → Bool
is_wrong_dimension WrongDimension = true
is_wrong_dimension _ = false

abbrev pub is_wrong_arguments : Fit → Bool
is_wrong_arguments WrongArguments = true
is_wrong_arguments _ = false

abbrev pub is_wrong_element : Fit → Bool
is_wrong_element WrongElement = true
is_wrong_element _ = false

-- the row of a member of an object, if there is one
abbrev pub member_of : Option Thing → Lexeme → Option TemplateArgument → List SeenArgument → Option Row
member_of None x t xs = None
member_of (Some o) x t xs = elim (member_named x.text) [ None ↦ None | Some m ↦ row_with t m (member_row o m xs) ]

abbrev pub fit_in : Option Row → Fit
fit_in None = Fits
fit_in (Some r) = r.fit

abbrev pub gives_in : Option Row → Option Thing
gives_in None = None
gives_in (Some r) = r.gives

-- the word of a construct whose arguments fit the library's row so badly
abbrev pub misfit : (Fit → Bool) → SeenExpr → List Spot
misfit p (Expr-F.Construct t b s xs e) = when (p (object_row t xs).fit) (type_word t)
misfit p (Expr-F.MemberCall a x t xs e) = when (p (fit_in (member_of a.what x t xs))) x.spot
misfit p (Expr-F.LibraryCall q f xs e) = when (p (library_row f xs).fit) q.name
misfit p _ = []

-- ---- indexes

-- the dimensions of what has elements (C++17, [expr.sub]; SYCL 2020, "Accessors", "id class")
abbrev pub indexed_dimensions : Thing → Option Dimensions
indexed_dimensions (thing.Vector k) = Some One
indexed_dimensions thing.DeviceVector = Some One
indexed_dimensions thing.ThreadVector = Some One
indexed_dimensions (thing.Accessor k d m) = Some d
indexed_dimensions (thing.HostAccessor k d m) = Some d
indexed_dimensions (thing.LocalAccessor k d) = Some d
indexed_dimensions (thing.Indexed k d l m) = Some d
indexed_dimensions (thing.Range d) = Some d
indexed_dimensions (thing.Id d) = Some d
indexed_dimensions (thing.Item d) = Some d
indexed_dimensions _ = None

-- an id or item takes the place of all indexes of these
abbrev pub takes_ids : Thing → Bool
takes_ids (thing.Accessor k d m) = true
takes_ids (thing.HostAccessor k d m) = true
takes_ids (thing.LocalAccessor k d) = true
takes_ids _ = false

abbrev pub dimensions_differ : Option Dimensions → Option Dimensions → Bool
dimensions_differ (Some d) (Some e) = not (same_dimensions d e)
dimensions_differ _ _ = false

abbrev pub in_known : {T : Type 0} → (Thing → Option T) → Option Thing → Option T
in_known f None = None
in_known f (Some t) = f t

-- an id or item of another dimension than the object's
abbrev pub is_index_of_another : Seen → Seen → Bool
is_index_of_another a i = dimensions_differ (in_known indexed_dimensions a.what) (in_known index_dimensions i.what)

abbrev pub is_whole_index : Seen → Seen → Bool
is_whole_index a i = passes takes_ids a.what && is_some (in_known index_dimensions i.what)

-- the first token of an index that is neither an integer nor an id or item where one is taken
abbrev pub wrong_index : Seen → Seen → List Spot
wrong_index a i = when (fails is_integer i.what && not (is_whole_index a i || is_index_of_another a i)) i.first

-- ---- BadDimension

-- a literal in `< >` that isn't 1, 2 or 3
abbrev pub no_dimension : Lexeme → List Spot
no_dimension x = when (is_none (dimensions_written x.text)) x.spot

abbrev pub bad_dimension : SeenExpr → List Spot
bad_dimension (Expr-F.Construct t b s xs e) = in_type no_dimension t ++ misfit is_wrong_dimension (Expr-F.Construct t b s xs e)
bad_dimension (Expr-F.Subscript a s i e) = when (is_index_of_another a i) i.first
bad_dimension x = misfit is_wrong_dimension x

-- ---- BadDeclaration: an event that is made of no call of submit

abbrev pub bad_declaration : SeenExpr → List Spot
bad_declaration (Expr-F.Construct (object.Event q) b s xs e) = q.name ∷ []
bad_declaration _ = []

-- ---- WrongArguments

-- a variable is called, or the arguments aren't the function's
abbrev pub is_called_wrongly : Option Signature → List Seen → Bool
is_called_wrongly None xs = true
is_called_wrongly (Some f) xs = not (all_passed f.parameters xs)

abbrev pub function_of : Names → Named → Option Signature
function_of n v = elim v.function [ None ↦ None | Some i ↦ signature_at n.functions i ]

abbrev pub is_wrong_call : Names → Option Named → List Seen → Bool
is_wrong_call n None xs = false
is_wrong_call n (Some v) xs = is_called_wrongly (function_of n v) xs

abbrev pub wrong_arguments : Names → SeenExpr → List Spot
wrong_arguments n (Expr-F.Call f xs e) = when (is_wrong_call n (look_up n.entries f.text) xs) f.spot
wrong_arguments n (Expr-F.GroupBarrier q a e) = when (fails is_group a.what) q.name
wrong_arguments n x = misfit is_wrong_arguments x

-- ---- UnknownMember: a word that the library doesn't give the object, and `data()` but as a buffer's argument

abbrev pub is_data : Thing → Bool
is_data (thing.Data k) = true
is_data _ = false

abbrev pub is_taken_data : Taken → Bool
is_taken_data taken.Data = true
is_taken_data _ = false

abbrev pub is_no_member : Taken → Option Thing → Option Row → Bool
is_no_member t None r = false
is_no_member t (Some o) None = true
is_no_member t (Some o) (Some r) = passes is_data r.gives && not (is_taken_data t)

abbrev pub unknown_member : Names → SeenExpr → List Spot
unknown_member n (Expr-F.MemberCall a x t xs e) = when (is_no_member n.setting.taken a.what (member_of a.what x t xs)) x.spot
unknown_member n (Expr-F.Subscript a s i e) = when (fails (λ t. is_some (indexed_dimensions t)) a.what) s
unknown_member n _ = []

-- ---- WrongOperand

abbrev pub is_compared : Taken → Bool
is_compared taken.Compared = true
is_compared _ = false

abbrev pub is_combined_into : Taken → Bool
is_combined_into taken.Reducer = true
is_combined_into _ = false

abbrev pub is_equality : Operator → Bool
is_equality (operator.Strict binary.Eq) = true
is_equality (operator.Strict binary.Ne) = true
is_equality _ = false

-- error codes are compared with one another, and each may be unknown
abbrev pub are_error_codes : Seen → Seen → Bool
are_error_codes a b =
    (passes is_error_code a.what && not (fails is_error_code b.what)) || (passes is_error_code b.what && not (fails is_error_code a.what))

abbrev pub wrong_operands : Operator → Seen → Seen → List Spot
wrong_operands op a b = if is_equality op && are_error_codes a b then [] else no_integer a ++ no_integer b

-- an error code that isn't compared; what `code()` gives is one
abbrev pub alone_code : Names → Option Thing → Spot → List Spot
alone_code n t s = when (passes is_error_code t && not (is_compared n.setting.taken)) s

abbrev pub wrong_operand : Names → SeenExpr → List Spot
wrong_operand n (Expr-F.Name x) = when (passes is_reducer (type_of_name (look_up n.entries x.text)) && not (is_combined_into n.setting.taken)) x.spot
wrong_operand n (Expr-F.ErrorCode q x) = alone_code n (Some thing.ErrorCode) q.namespace
wrong_operand n (Expr-F.MemberCall a x t xs e) = alone_code n (gives_in (member_of a.what x t xs)) a.first
wrong_operand n (Expr-F.StaticCast s t a e) = no_integer a
wrong_operand n (Expr-F.FunctionalCast t a e) = no_integer a
wrong_operand n (Expr-F.Cast s t a) = no_integer a
wrong_operand n (Expr-F.Unary s op a) = no_integer a
wrong_operand n (Expr-F.Binary a s op b) = wrong_operands op a b
wrong_operand n (Expr-F.Conditional a s b c) = no_integer a ++ (no_integer b ++ no_integer c)
wrong_operand n (Expr-F.Prefix s step a) = no_integer a ++ if_bool a
wrong_operand n (Expr-F.Postfix a s step) = no_integer a ++ if_bool a
wrong_operand n (Expr-F.Subscript a s i e) = wrong_index a i
wrong_operand n _ = []

-- ---- BadElement

abbrev pub bad_element : SeenExpr → List Spot
bad_element x = misfit is_wrong_element x

-- ---- NotAssignable

abbrev pub changes_vector : Option Member → Bool
changes_vector (Some member.PushBack) = true
changes_vector _ = false

abbrev pub not_assignable : SeenExpr → List Spot
not_assignable (Expr-F.Prefix s step a) = no_target a
not_assignable (Expr-F.Postfix a s step) = no_target a
not_assignable (Expr-F.MemberCall a x t xs e) = when (is_some (member_of a.what x t xs) && (changes_vector (member_named x.text) && is_const a.denotes)) a.first
not_assignable _ = []

-- ---- ModeBroken

abbrev pub unread_argument : SeenArgument → List Spot
unread_argument (argument.Value a) = unread a
unread_argument (argument.Braced xs) = flat_map unread xs
unread_argument (argument.Lambda l) = []

abbrev pub unread_arguments : List SeenArgument → List Spot
unread_arguments = flat_map unread_argument

abbrev pub mode_broken : SeenExpr → List Spot
mode_broken (Expr-F.Call f xs e) = flat_map unread xs
mode_broken (Expr-F.StaticCast s t a e) = unread a
mode_broken (Expr-F.FunctionalCast t a e) = unread a
mode_broken (Expr-F.Cast s t a) = unread a
mode_broken (Expr-F.Construct t b s xs e) = unread_arguments xs
mode_broken (Expr-F.LibraryCall q f xs e) = unread_arguments xs
mode_broken (Expr-F.MemberCall a x t xs e) = unread_arguments xs
mode_broken (Expr-F.Subscript a s i e) = unread i
mode_broken (Expr-F.Unary s op a) = unread a
mode_broken (Expr-F.Binary a s op b) = unread a ++ unread b
mode_broken (Expr-F.Conditional a s b c) = unread a ++ (unread b ++ unread c)
mode_broken (Expr-F.Prefix s step a) = unread a ++ unwritten a
mode_broken (Expr-F.Postfix a s step) = unread a ++ unwritten a
mode_broken _ = []

-- ---- NotInHost: an accessor, a barrier or a group function outside groups and kernels

abbrev pub not_in_host : Names → SeenExpr → List Spot
not_in_host n (Expr-F.Construct t b s xs e) = when (is_host n.setting.within && not (made_in_host t)) (type_start t)
not_in_host n (Expr-F.GroupBarrier q a e) = when (is_host n.setting.within) q.namespace
not_in_host n (Expr-F.LibraryCall q f xs e) = when (is_host n.setting.within && not (is_reduction_call f)) q.namespace
not_in_host n _ = []

-- ---- KernelCapture

-- it is declared outside the kernel that it is used in
abbrev pub is_outside : Option ℕ → Named → Bool
is_outside None v = false
is_outside (Some d) v = nat_le v.depth d

-- the runtime's other objects break NotInKernel
abbrev pub is_not_captured : Thing → Bool
is_not_captured (thing.NdRange d) = true
is_not_captured (thing.HostAccessor k d m) = true
is_not_captured thing.Exception = true
is_not_captured _ = false

abbrev pub is_captured_badly : Option ℕ → Option Named → Bool
is_captured_badly k None = false
is_captured_badly k (Some v) = is_outside k v && passes is_not_captured v.what

abbrev pub kernel_capture : Names → SeenExpr → List Spot
kernel_capture n (Expr-F.Name x) = when (is_captured_badly n.setting.kernel (look_up n.entries x.text)) x.spot
kernel_capture n _ = []

-- ---- ThreadCapture

-- a thread may share these
abbrev pub is_shared : Thing → Bool
is_shared thing.Queue = true
is_shared thing.Device = true
is_shared thing.Context = true
is_shared (thing.Buffer k d) = true
is_shared _ = false

-- a constant of the file isn't captured
abbrev pub is_local_outside : ThreadScope → Named → Bool
is_local_outside t v = nat_lt 0 v.depth && nat_le v.depth t.outside

abbrev pub may_share : ThreadScope → Named → Bool
may_share t v = not (fails is_shared v.what) && nat_lt v.number t.variable

-- the thread's lambda uses the name, and doesn't list it
abbrev pub is_misused : Named → ThreadScope → Bool
is_misused v t = is_local_outside t v && not (t.by_reference && may_share t v)

abbrev pub is_misused_in : List ThreadScope → Option Named → Bool
is_misused_in ts None = false
is_misused_in ts (Some v) = list_any (is_misused v) ts

abbrev pub thread_capture : Names → SeenExpr → List Spot
thread_capture n (Expr-F.Name x) = when (is_misused_in n.threads (look_up n.entries x.text)) x.spot
thread_capture n _ = []

-- ---- BadCall: of `main` or the function itself, or from a group or kernel of a function with reference parameters

abbrev pub is_same_function : Option ℕ → Option ℕ → Bool
is_same_function (Some i) (Some j) = nat_eq i j
is_same_function _ _ = false

abbrev pub is_forbidden : Names → Option ℕ → Option Signature → Bool
is_forbidden n i None = false
is_forbidden n i (Some f) = f.is_main || (is_same_function i n.setting.function || (not (is_host n.setting.within) && takes_references f))

abbrev pub is_bad_call : Names → Option Named → Bool
is_bad_call n None = false
is_bad_call n (Some v) = is_forbidden n v.function (function_of n v)

abbrev pub bad_call : Names → SeenExpr → List Spot
bad_call n (Expr-F.Call f xs e) = when (is_bad_call n (look_up n.entries f.text)) f.spot
bad_call n _ = []

-- ---- all rules

abbrev pub expr_faults : Names → SeenExpr → List Diagnostic
expr_faults n x =
    at code.UnknownName (unknown_name n x)
    ++ (at code.BadLiteral (bad_literal x)
    ++ (at code.BadDimension (bad_dimension x)
    ++ (at code.BadDeclaration (bad_declaration x)
    ++ (at code.WrongArguments (wrong_arguments n x)
    ++ (at code.UnknownMember (unknown_member n x)
    ++ (at code.WrongOperand (wrong_operand n x)
    ++ (at code.BadElement (bad_element x)
    ++ (at code.NotAssignable (not_assignable x)
    ++ (at code.ModeBroken (mode_broken x)
    ++ (at code.NotInHost (not_in_host n x)
    ++ (at code.KernelCapture (kernel_capture n x)
    ++ (at code.ThreadCapture (thread_capture n x)
    ++ at code.BadCall (bad_call n x)))))))))))))

-- what isn't allowed in a kernel or group breaks no further rule there
abbrev pub faults : Names → SeenExpr → List Diagnostic
faults n x = if is_foreign n.setting.within n x then [] else expr_faults n x
