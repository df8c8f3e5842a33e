-- The rules of typing at full expressions, declarations and statements.
use Rattle.std.specs.Prelude.{Bool, true, false, ◌&&◌, ◌||◌, not, if◌then◌else◌, List, [], ◌∷◌, ◌++◌, Option, Some, None, is_some, flat_map}
use Rattle.sy_note.specs.declared.Code.TheVariants as code
use Rattle.sy_note.specs.declared.Diagnostic.{Diagnostic}
use Rattle.sy_note.specs.declared.Spot.{Spot}
use Rattle.sy_num.specs.declared.Kind.{Kind}
use Rattle.sy_tree.specs.declared.operators.AssignmentOperator.{AssignmentOperator}
use Rattle.sy_tree.specs.declared.operators.AssignmentOperator.TheVariants as assign
use Rattle.sy_tree.specs.declared.parts.ConstSpecifier.{ConstSpecifier}
use Rattle.sy_tree.specs.declared.parts.ConstSpecifier.TheVariants as specifier
use Rattle.sy_tree.specs.declared.parts.FunctionObject.{FunctionObject}
use Rattle.sy_tree.specs.declared.parts.FunctionObject.TheVariants as combining
use Rattle.sy_tree.specs.declared.parts.Lexeme.{Lexeme}
use Rattle.sy_tree.specs.declared.parts.ObjectType.{ObjectType}
use Rattle.sy_tree.specs.declared.parts.ObjectType.TheVariants as object
use Rattle.sy_tree.specs.declared.parts.TypeSpecifier.{TypeSpecifier}
use Rattle.sy_tree.specs.declared.parts.TypeSpecifier.TheVariants as type
use Rattle.sy_tree.specs.declared.tree.Argument.TheOpen.{FullExpression-F, Stmt-F}
use Rattle.sy_typed.specs.declared.things.Thing.{Thing}
use Rattle.sy_typed.specs.declared.things.Thing.TheVariants as thing
use Rattle.sy_rules.specs.declared.names.Names.{Names}
use Rattle.sy_rules.specs.declared.names.Setting.{Setting}
use Rattle.sy_rules.specs.declared.seen.Constant.{Constant}
use Rattle.sy_rules.specs.declared.seen.Constant.TheVariants as constant
use Rattle.sy_rules.specs.declared.seen.Seen.{Seen}
use Rattle.sy_rules.specs.declared.seen.SeenInitializer.{SeenInitializer}
use Rattle.sy_rules.specs.declared.statements.Shared.{Shared}
use Rattle.sy_rules.specs.declared.statements.Shared.TheVariants as shared
use Rattle.sy_rules.specs.Calls.{is_const}
use Rattle.sy_rules.specs.Constants.{converted_to_type}
use Rattle.sy_rules.specs.ExprRules.{in_type, wide_literal, no_dimension, unread_arguments, is_wrong_dimension, is_wrong_arguments, is_wrong_element}
use Rattle.sy_rules.specs.Faults.{at}
use Rattle.sy_rules.specs.Foreign.{is_host, made_in_host, type_start}
use Rattle.sy_rules.specs.Layers.{SeenFull, SeenStmt}
use Rattle.sy_rules.specs.Names.{is_here}
use Rattle.sy_rules.specs.Objects.{object_row, fit_vector, fit_device_vector, is_submitted, arguments_of}
use Rattle.sy_rules.specs.Seen.{when, fails, passes, is_known, is_reducer, kind_of, same_kind, same_dimensions, no_integer, no_target, unread, unwritten}

-- ---- full expressions (C++17, [expr.ass]; SYCL 2020, "reducer class")

-- the operator combines as the reduction does
abbrev pub combines_as : FunctionObject → AssignmentOperator → Bool
combines_as combining.Plus assign.Add = true
combines_as combining.Multiplies assign.Mul = true
combines_as combining.BitAnd assign.And = true
combines_as combining.BitOr assign.Or = true
combines_as combining.BitXor assign.Xor = true
combines_as f op = false

abbrev pub is_plain : AssignmentOperator → Bool
is_plain assign.Assign = true
is_plain _ = false

-- WrongOperand: what `+=` and its kin change is an integer, or a reduction's variable that they combine into
abbrev pub wrong_target : AssignmentOperator → Seen → Option Thing → List Spot
wrong_target op t None = []
wrong_target op t (Some (thing.Reducer k f)) = when (not (combines_as f op)) t.first
wrong_target op t (Some _) = if is_plain op then [] else no_integer t

abbrev pub wrong_in_full : SeenFull → List Spot
wrong_in_full (FullExpression-F.Plain a) = []
wrong_in_full (FullExpression-F.Assignment t s op v) = wrong_target op t t.what ++ no_integer v

-- NotAssignable
abbrev pub no_target_in_full : SeenFull → List Spot
no_target_in_full (FullExpression-F.Plain a) = []
no_target_in_full (FullExpression-F.Assignment t s op v) = if passes is_reducer t.what then [] else no_target t

-- ModeBroken: the target of `=` is written, that of `+=` and its kin read too
abbrev pub bad_mode : AssignmentOperator → Seen → List Spot
bad_mode assign.Assign t = unwritten t
bad_mode _ t = unread t ++ unwritten t

abbrev pub mode_in_full : SeenFull → List Spot
mode_in_full (FullExpression-F.Plain a) = unread a
mode_in_full (FullExpression-F.Assignment t s op v) = bad_mode op t ++ unread v

abbrev pub full_faults : SeenFull → List Diagnostic
full_faults x =
    at code.WrongOperand (wrong_in_full x)
    ++ (at code.NotAssignable (no_target_in_full x)
    ++ at code.ModeBroken (mode_in_full x))

-- ---- Redeclared (C++17, [basic.scope.declarative])

abbrev pub redeclared : Names → Lexeme → List Spot
redeclared n x = when (is_here n x.text) x.spot

-- ---- declared integers

-- the types that `auto` takes (C++17, [dcl.spec.auto])
abbrev pub auto_takes : Thing → Bool
auto_takes (thing.Integer k) = true
auto_takes (thing.Id d) = true
auto_takes (thing.Range d) = true
auto_takes (thing.NdRange d) = true
auto_takes (thing.Group d) = true
auto_takes thing.Device = true
auto_takes _ = false

-- what it takes only from a call, and behind `=`
abbrev pub auto_takes_call : Thing → Bool
auto_takes_call thing.Event = true
auto_takes_call thing.DeviceVector = true
auto_takes_call _ = false

-- an initializer, and whether it stands behind `=`
abbrev pub Given : Type 0
Given = Option (Seen × Bool)

abbrev pub is_taken : Seen → Bool → Thing → Bool
is_taken a equal t = auto_takes t || (auto_takes_call t && (equal && not (is_some a.variable)))

-- several names of one `auto` have one type
abbrev pub same_type : Thing → Thing → Bool
same_type (thing.Integer j) (thing.Integer k) = same_kind j k
same_type (thing.Id d) (thing.Id e) = same_dimensions d e
same_type (thing.Range d) (thing.Range e) = same_dimensions d e
same_type (thing.NdRange d) (thing.NdRange e) = same_dimensions d e
same_type (thing.Group d) (thing.Group e) = same_dimensions d e
same_type thing.Device thing.Device = true
same_type thing.Event thing.Event = true
same_type thing.DeviceVector thing.DeviceVector = true
same_type _ _ = false

-- what the names of one `auto` share so far
abbrev pub differs_from : Shared → Thing → Bool
differs_from (shared.Type f) t = not (same_type f t)
differs_from _ t = false

abbrev pub shared_after : Shared → Option Thing → Shared
shared_after shared.Unknown (Some t) = shared.Type t
shared_after (shared.Type f) (Some t) = if same_type f t then shared.Type f else shared.Differs
shared_after sh _ = sh

-- BadDeclaration: `auto` has nothing to take its type from, or is the first with another one than the first name's
abbrev pub bad_auto : Shared → Given → Spot → List Spot
bad_auto first None s = s ∷ []
bad_auto first (Some (a, equal)) s = when (fails (λ t. is_taken a equal t && not (differs_from first t)) a.what) s

abbrev pub is_missing : Option ConstSpecifier → Given → Bool
is_missing None i = false
is_missing (Some c) None = true
is_missing (Some c) (Some a) = false

-- what is const has an initializer
abbrev pub bad_declaration : Option ConstSpecifier → TypeSpecifier → Shared → Given → Spot → List Spot
bad_declaration c (type.Integer t) first i s = when (is_missing c i) s
bad_declaration c (type.Auto w) first i s = bad_auto first i s

-- BadConstant: a constant whose initializer is no constant, or has no value (C++17, [expr.const])
abbrev pub is_constant : Option ConstSpecifier → Bool
is_constant (Some (specifier.Constexpr s)) = true
is_constant _ = false

abbrev pub has_no_value : Constant → Bool
has_no_value constant.Varying = true
has_no_value constant.Undefined = true
has_no_value _ = false

abbrev pub bad_constant : Bool → Given → List Spot
bad_constant must None = []
bad_constant must (Some (a, equal)) = when (must && (is_known a && has_no_value a.constant)) a.first

abbrev pub wrong_initializer : TypeSpecifier → Given → List Spot
wrong_initializer (type.Integer t) (Some (a, equal)) = no_integer a
wrong_initializer _ _ = []

abbrev pub unread_initializer : Given → List Spot
unread_initializer None = []
unread_initializer (Some (a, equal)) = unread a

-- a declared name: `must` says that it has to be a constant, and `first` is what several names share so far
abbrev pub declarator_faults : Names → Bool → Option ConstSpecifier → TypeSpecifier → Shared → Lexeme → Given → List Diagnostic
declarator_faults n must c t first x i =
    at code.Redeclared (redeclared n x)
    ++ (at code.BadConstant (bad_constant must i)
    ++ (at code.BadDeclaration (bad_declaration c t first i x.spot)
    ++ (at code.WrongOperand (wrong_initializer t i)
    ++ at code.ModeBroken (unread_initializer i))))

-- the type that the name gets
abbrev pub auto_type : Given → Option Thing
auto_type None = None
auto_type (Some (a, equal)) = if passes (is_taken a equal) a.what then a.what else None

abbrev pub declared_type : TypeSpecifier → Given → Option Thing
declared_type (type.Integer t) i = Some (thing.Integer t.kind)
declared_type (type.Auto w) i = auto_type i

abbrev pub or_unknown : Constant → Constant
or_unknown (constant.Number z) = constant.Number z
or_unknown c = constant.Unknown

abbrev pub constant_given : Option Thing → Given → Constant
constant_given t None = constant.Unknown
constant_given t (Some (a, equal)) = or_unknown (converted_to_type (kind_of t) a.constant)

-- the value of a name that has to be a constant
abbrev pub declared_constant : Bool → TypeSpecifier → Given → Constant
declared_constant true t i = constant_given (declared_type t i) i
declared_constant false t i = constant.Varying

-- ---- declared objects

-- an event is had from a call of submit alone
abbrev pub unsubmitted : ObjectType → Option SeenInitializer → Spot → List Spot
unsubmitted (object.Event q) i s = when (not (is_submitted i)) s
unsubmitted t i s = []

-- the places at which an object of the library breaks a rule, unless a kernel or group that holds it forbids it
abbrev pub object_faults : Names → ObjectType → Lexeme → Option SeenInitializer → List Diagnostic
object_faults n t x i =
    at code.Redeclared (redeclared n x)
    ++ (at code.BadLiteral (in_type wide_literal t)
    ++ (at code.BadDimension (in_type no_dimension t ++ when (is_wrong_dimension (object_row t (arguments_of i)).fit) x.spot)
    ++ (at code.BadDeclaration (unsubmitted t i x.spot)
    ++ (at code.WrongArguments (when (is_wrong_arguments (object_row t (arguments_of i)).fit) x.spot)
    ++ (at code.BadElement (when (is_wrong_element (object_row t (arguments_of i)).fit) x.spot)
    ++ (at code.ModeBroken (unread_arguments (arguments_of i))
    ++ at code.NotInHost (when (is_host n.setting.within && not (made_in_host t)) (type_start t))))))))

abbrev pub vector_faults : Names → Kind → Lexeme → Option SeenInitializer → List Diagnostic
vector_faults n k x i =
    at code.Redeclared (redeclared n x)
    ++ (at code.WrongArguments (when (is_wrong_arguments (fit_vector k i)) x.spot)
    ++ at code.ModeBroken (unread_arguments (arguments_of i)))

abbrev pub device_vector_faults : Names → Lexeme → Option SeenInitializer → List Diagnostic
device_vector_faults n x i =
    at code.Redeclared (redeclared n x) ++ at code.WrongArguments (when (is_wrong_arguments (fit_device_vector i)) x.spot)

abbrev pub plain_faults : Names → Lexeme → List Diagnostic
plain_faults n x = at code.Redeclared (redeclared n x)

-- ---- range-for (C++17, [stmt.ranged])

-- what a name goes over: how the element is declared, and what is known of the vector
abbrev pub goes_over : TypeSpecifier → Bool → Bool → Thing → Bool
goes_over (type.Auto w) is_const by_reference (thing.Vector k) = true
goes_over (type.Integer t) is_const by_reference (thing.Vector k) = not by_reference || same_kind t.kind k
goes_over (type.Auto w) is_const by_reference thing.DeviceVector = true
goes_over (type.Auto w) is_const by_reference thing.ThreadVector = by_reference && not is_const
goes_over t is_const by_reference _ = false

abbrev pub element_given : TypeSpecifier → Option Thing → Option Thing
element_given (type.Integer t) v = Some (thing.Integer t.kind)
element_given (type.Auto w) (Some (thing.Vector k)) = Some (thing.Integer k)
element_given (type.Auto w) (Some thing.DeviceVector) = Some thing.Device
element_given (type.Auto w) (Some thing.ThreadVector) = Some thing.Thread
element_given (type.Auto w) _ = None

-- ---- statements

abbrev pub loop_word : Setting → SeenStmt → List Spot
loop_word at (Stmt-F.Break s e) = when (not at.in_loop) s
loop_word at (Stmt-F.Continue s e) = when (not at.in_loop) s
loop_word at _ = []

abbrev pub bad_return : Setting → SeenStmt → List Spot
bad_return at (Stmt-F.Return s None e) = when (is_some at.returned) s
bad_return at (Stmt-F.Return s (Some a) e) = when (not (is_some at.returned)) s
bad_return at _ = []

-- conditions and returned values
abbrev pub asked_in : SeenStmt → List Seen
asked_in (Stmt-F.Return s (Some a) e) = a ∷ []
asked_in (Stmt-F.If s a x y) = a ∷ []
asked_in (Stmt-F.While s a x) = a ∷ []
asked_in (Stmt-F.Do s x a e) = a ∷ []
asked_in (Stmt-F.For s i (Some a) f x) = a ∷ []
asked_in _ = []

abbrev pub stmt_faults : Setting → SeenStmt → List Diagnostic
stmt_faults setting x =
    at code.WrongOperand (flat_map no_integer (asked_in x))
    ++ (at code.ModeBroken (flat_map unread (asked_in x))
    ++ (at code.BadReturn (bad_return setting x)
    ++ at code.LoopWord (loop_word setting x)))
