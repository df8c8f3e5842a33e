-- The rules of typing at lambdas, and what they are given. (C++17, [expr.prim.lambda]; SYCL 2020, "Command group
-- function objects", "Defining kernels as lambdas")
use Rattle.std.specs.Prelude.{ℕ, Bool, true, false, ◌&&◌, ◌||◌, not, if◌then◌else◌, nat_eq, nat_lt, List, [], ◌∷◌, ◌++◌, map, filter, Option, Some, None, is_none}
use Rattle.std.specs.List.{list_any}
use Rattle.std.specs.Str.{bytes_eq}
use Rattle.sy_note.specs.declared.Code.TheVariants as code
use Rattle.sy_note.specs.declared.Diagnostic.{Diagnostic}
use Rattle.sy_note.specs.declared.Spot.{Spot}
use Rattle.sy_tree.specs.declared.parts.Capture.{Capture}
use Rattle.sy_tree.specs.declared.parts.Capture.TheVariants as capture
use Rattle.sy_tree.specs.declared.parts.LambdaParameter.{LambdaParameter}
use Rattle.sy_tree.specs.declared.parts.LambdaParameterType.{LambdaParameterType}
use Rattle.sy_tree.specs.declared.parts.LambdaParameterType.TheVariants as parameter
use Rattle.sy_tree.specs.declared.parts.Lexeme.{Lexeme}
use Rattle.sy_typed.specs.declared.things.Dimensions.{Dimensions}
use Rattle.sy_typed.specs.declared.things.Thing.{Thing}
use Rattle.sy_typed.specs.declared.things.Thing.TheVariants as thing
use Rattle.sy_typed.specs.declared.tree.TypedCapture.{TypedCapture}
use Rattle.sy_typed.specs.declared.tree.TypedCapture.TheVariants as typed_capture
use Rattle.sy_rules.specs.declared.names.Named.{Named}
use Rattle.sy_rules.specs.declared.names.Names.{Names}
use Rattle.sy_rules.specs.declared.names.ThreadScope.{ThreadScope}
use Rattle.sy_rules.specs.declared.library.KernelIndex.{KernelIndex}
use Rattle.sy_rules.specs.declared.library.KernelIndex.TheVariants as index
use Rattle.sy_rules.specs.declared.library.Role.{Role}
use Rattle.sy_rules.specs.declared.library.Role.TheVariants as role
use Rattle.sy_rules.specs.ExprRules.{wide_literal, no_dimension, is_misused_in, may_share}
use Rattle.sy_rules.specs.ExprTypes.{variable_named}
use Rattle.sy_rules.specs.Faults.{at}
use Rattle.sy_rules.specs.Literals.{dimensions_written}
use Rattle.sy_rules.specs.Names.{look_up}
use Rattle.sy_rules.specs.Seen.{when, fails}
use Rattle.sy_rules.specs.StmtRules.{redeclared}

-- ---- captures

abbrev pub is_reference_default : Capture → Bool
is_reference_default (capture.DefaultReference s) = true
is_reference_default _ = false

abbrev pub is_copy_default : Capture → Bool
is_copy_default (capture.DefaultCopy s) = true
is_copy_default _ = false

abbrev pub is_default : Capture → Bool
is_default c = is_reference_default c || is_copy_default c

abbrev pub names_it : List ℕ → Capture → Bool
names_it x (capture.Reference s y) = bytes_eq x y.text
names_it x (capture.Copy y) = bytes_eq x y.text
names_it x _ = false

-- a name isn't listed twice, and not again behind the default that takes it in the same way
abbrev pub is_repeated : List Capture → Capture → Bool
is_repeated before (capture.Reference s x) = list_any is_reference_default before || list_any (names_it x.text) before
is_repeated before (capture.Copy x) = list_any is_copy_default before || list_any (names_it x.text) before
is_repeated [] c = false
is_repeated (b ∷ before) c = true

abbrev pub is_listed_well : List Capture → List Capture → Bool
is_listed_well before [] = true
is_listed_well before (c ∷ more) = not (is_repeated before c) && is_listed_well (c ∷ before) more

abbrev pub is_only : (Capture → Bool) → List Capture → Bool
is_only p (c ∷ []) = p c
is_only p _ = false

-- a group takes all by reference, a kernel all by copy, and a thread anything but all by copy
abbrev pub captures_fit : Role → List Capture → Bool
captures_fit role.Group cs = is_only is_reference_default cs
captures_fit (role.Kernel i r) cs = is_only is_copy_default cs
captures_fit (role.Thread v) cs = is_listed_well [] cs && not (list_any is_copy_default cs)

-- ---- ThreadCapture and UnknownName at listed names

abbrev pub is_integer_type : Thing → Bool
is_integer_type (thing.Integer k) = true
is_integer_type _ = false

-- by copy an integer, by reference what may be shared; no constant of the file
abbrev pub is_listed_badly : ThreadScope → Bool → Named → Bool
is_listed_badly t by_reference v =
    not (nat_lt 0 v.depth) || (if by_reference then not (may_share t v) else fails is_integer_type v.what)

-- a lambda that is no thread's lists no names
abbrev pub listed_badly : Option ThreadScope → Bool → Option Named → Bool
listed_badly None by_reference v = false
listed_badly (Some t) by_reference None = false
listed_badly (Some t) by_reference (Some v) = is_listed_badly t by_reference v

abbrev pub listed_faults : Names → Option ThreadScope → Bool → Lexeme → List Diagnostic
listed_faults n t by_reference x =
    at code.UnknownName (when (is_none (look_up n.entries x.text)) x.spot)
    ++ at code.ThreadCapture (when (listed_badly t by_reference (look_up n.entries x.text) || is_misused_in n.threads (look_up n.entries x.text)) x.spot)

-- the scope of a thread's lambda at a place, if the role is a thread's
abbrev pub thread_scope : Names → Role → List Capture → Option ThreadScope
thread_scope n (role.Thread v) cs = Some (record { outside = n.depth; by_reference = list_any is_reference_default cs; variable = v })
thread_scope n _ cs = None

-- ---- parameters

abbrev pub index_type : (Dimensions → Thing) → Lexeme → Option Thing
index_type f x = elim (dimensions_written x.text) [ None ↦ None | Some d ↦ Some (f d) ]

-- the type of `auto&`: a group's handler, or the variable of a kernel's reduction
abbrev pub auto_parameter : Role → Option Thing
auto_parameter role.Group = Some thing.Handler
auto_parameter (role.Kernel i (Some r)) = r
auto_parameter _ = None

abbrev pub parameter_type : Role → LambdaParameterType → Option Thing
parameter_type r (parameter.Handler q) = Some thing.Handler
parameter_type r (parameter.Auto s) = auto_parameter r
parameter_type r (parameter.Id q x) = index_type (λ d. thing.Id d) x
parameter_type r (parameter.Item q x) = index_type (λ d. thing.Item d) x
parameter_type r (parameter.NdItem q x) = index_type (λ d. thing.NdItem d) x

abbrev pub in_parameter : (Lexeme → List Spot) → LambdaParameterType → List Spot
in_parameter f (parameter.Id q x) = f x
in_parameter f (parameter.Item q x) = f x
in_parameter f (parameter.NdItem q x) = f x
in_parameter f _ = []

abbrev pub lambda_parameter_faults : Names → LambdaParameter → List Diagnostic
lambda_parameter_faults n p =
    at code.Redeclared (redeclared n p.name)
    ++ (at code.BadLiteral (in_parameter wide_literal p.of)
    ++ at code.BadDimension (in_parameter no_dimension p.of))

abbrev pub is_handler_type : LambdaParameterType → Bool
is_handler_type (parameter.Handler q) = true
is_handler_type (parameter.Auto s) = true
is_handler_type _ = false

abbrev pub is_auto : LambdaParameterType → Bool
is_auto (parameter.Auto s) = true
is_auto _ = false

-- an id or item over a range, an nd_item over an nd_range
abbrev pub is_index : KernelIndex → LambdaParameterType → Bool
is_index (index.OverRange d) (parameter.Id q x) = true
is_index (index.OverRange d) (parameter.Item q x) = true
is_index (index.OverNdRange d) (parameter.NdItem q x) = true
is_index index.Unknown t = not (is_handler_type t)
is_index _ t = false

abbrev pub is_handler_reference : List LambdaParameter → Bool
is_handler_reference (p ∷ []) = is_handler_type p.of && p.by_reference
is_handler_reference _ = false

abbrev pub is_reducer_reference : List LambdaParameter → Bool
is_reducer_reference (p ∷ []) = is_auto p.of && p.by_reference
is_reducer_reference _ = false

abbrev pub are_none : List LambdaParameter → Bool
are_none [] = true
are_none _ = false

-- behind the index a reduction's variable, if there is one
abbrev pub rest_fits : Option (Option Thing) → List LambdaParameter → Bool
rest_fits None ps = are_none ps
rest_fits (Some t) ps = is_reducer_reference ps

abbrev pub indexed_fits : KernelIndex → Option (Option Thing) → List LambdaParameter → Bool
indexed_fits index.Absent r ps = are_none ps
indexed_fits i r [] = false
indexed_fits i r (p ∷ ps) = is_index i p.of && rest_fits r ps

abbrev pub parameters_fit : Role → List LambdaParameter → Bool
parameters_fit role.Group ps = is_handler_reference ps
parameters_fit (role.Thread v) ps = are_none ps
parameters_fit (role.Kernel i r) ps = indexed_fits i r ps

-- BadLambda, where nothing else is broken in the lambda
abbrev pub bad_lambda : Role → Spot → List Capture → List LambdaParameter → List Diagnostic → List Spot
bad_lambda r s cs ps [] = when (not (captures_fit r cs && parameters_fit r ps)) s
bad_lambda r s cs ps (d ∷ ds) = []

-- the dimensions of a kernel's index
abbrev pub parameter_dimensions : LambdaParameterType → Option Dimensions
parameter_dimensions (parameter.Id q x) = dimensions_written x.text
parameter_dimensions (parameter.Item q x) = dimensions_written x.text
parameter_dimensions (parameter.NdItem q x) = dimensions_written x.text
parameter_dimensions _ = None

abbrev pub first_dimensions : List LambdaParameter → Option Dimensions
first_dimensions [] = None
first_dimensions (p ∷ ps) = parameter_dimensions p.of

abbrev pub listed : {T : Type 0} → Option (List T) → List T
listed None = []
listed (Some xs) = xs

-- ---- what a lambda is given

-- each declaration once, in the order of its first use
abbrev pub each_once : List ℕ → List Named → List Named
each_once before [] = []
each_once before (v ∷ more) = if list_any (nat_eq v.number) before then each_once before more else v ∷ each_once (v.number ∷ before) more

-- of the declarations before this one
abbrev pub outer_uses : ℕ → List Named → List Named
outer_uses start used = filter (λ v. nat_lt v.number start) used

abbrev pub reference_to : Named → TypedCapture
reference_to v = typed_capture.Reference (variable_named v)

-- where the name stands for an element, the element is copied
abbrev pub copy_of : Named → TypedCapture
copy_of v = if v.names_element then typed_capture.Element (variable_named v) else typed_capture.Copy (variable_named v)

abbrev pub number_listed : TypedCapture → ℕ
number_listed (typed_capture.Reference x) = x.number
number_listed (typed_capture.Copy x) = x.number
number_listed (typed_capture.Element x) = x.number

-- a kernel gets copies of what it uses; a thread what it lists, and then by reference what it uses; a group nothing
abbrev pub captures_given : Role → ℕ → List TypedCapture → List Named → List TypedCapture
captures_given role.Group start listed used = []
captures_given (role.Kernel i r) start listed used = map copy_of (each_once [] (outer_uses start used))
captures_given (role.Thread v) start listed used =
    listed ++ map reference_to (each_once (map number_listed listed) (outer_uses start used))
