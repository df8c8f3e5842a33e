-- Calls of the source's own functions, of a reduction, and of group functions.
-- (C++17, [expr.call]; SYCL 2020, "Reduction variables", "Group functions library")
use Rattle.std.specs.Prelude.{ℕ, zero, suc, Bool, true, false, not, ◌&&◌, ◌||◌, List, [], ◌∷◌, Option, Some, None}
use Rattle.std.specs.List.{list_any}
use Rattle.sy_num.specs.declared.Kind.{Kind}
use Rattle.sy_num.specs.declared.Kind.TheVariants as kind
use Rattle.sy_tree.specs.declared.parts.LibraryFunction.{LibraryFunction}
use Rattle.sy_tree.specs.declared.parts.LibraryFunction.TheVariants as function
use Rattle.sy_typed.specs.declared.things.Thing.{Thing}
use Rattle.sy_typed.specs.declared.things.Thing.TheVariants as thing
use Rattle.sy_rules.specs.declared.names.Passed.{Passed}
use Rattle.sy_rules.specs.declared.names.Passed.TheVariants as passed
use Rattle.sy_rules.specs.declared.names.Signature.{Signature}
use Rattle.sy_rules.specs.declared.seen.Denotes.{Denotes}
use Rattle.sy_rules.specs.declared.seen.Denotes.TheVariants as denotes
use Rattle.sy_rules.specs.declared.seen.Seen.{Seen}
use Rattle.sy_rules.specs.declared.library.Fit.{Fit}
use Rattle.sy_rules.specs.declared.library.Fit.TheVariants.{Fits, WrongArguments}
use Rattle.sy_rules.specs.declared.library.Row.{Row}
use Rattle.sy_rules.specs.declared.seen.SeenArgument.{SeenArgument}
use Rattle.sy_rules.specs.Fit.{both, arguments_if, element_if, may_be, type_in}
use Rattle.sy_rules.specs.Objects.{is_buffer, is_handler}
use Rattle.sy_rules.specs.Seen.{fails, is_integer, kind_of, same_kind, same_dimensions, is_known}

-- ---- functions of the source

-- the types of reference parameters
abbrev pub same_object : Thing → Thing → Bool
same_object thing.Queue thing.Queue = true
same_object thing.Device thing.Device = true
same_object thing.Context thing.Context = true
same_object (thing.Buffer j d) (thing.Buffer k e) = same_kind j k && same_dimensions d e
same_object (thing.Vector j) (thing.Vector k) = same_kind j k
same_object _ _ = false

abbrev pub is_const : Denotes → Bool
is_const (denotes.Place fixed) = fixed
is_const _ = false

-- the name of a variable of that type, which is const only where it may be
abbrev pub can_be_passed : Passed → Seen → Bool
can_be_passed passed.Integer a = not (fails is_integer a.what)
can_be_passed (passed.Reference None takes_const) a = true
can_be_passed (passed.Reference (Some t) takes_const) a =
    not (is_known a) || (not (fails (same_object t) a.what) && (a.is_bare && (takes_const || not (is_const a.denotes))))

abbrev pub all_passed : List Passed → List Seen → Bool
all_passed [] [] = true
all_passed (p ∷ ps) (a ∷ more) = can_be_passed p a && all_passed ps more
all_passed _ _ = false

abbrev pub is_reference : Passed → Bool
is_reference passed.Integer = false
is_reference (passed.Reference t c) = true

abbrev pub takes_references : Signature → Bool
takes_references f = list_any is_reference f.parameters

abbrev pub returned_type : Option Kind → Thing
returned_type None = thing.Void
returned_type (Some k) = thing.Integer k

-- the function with this place, if it is declared already
abbrev pub signature_at : List Signature → ℕ → Option Signature
signature_at [] i = None
signature_at (f ∷ more) zero = Some f
signature_at (f ∷ more) (suc i) = signature_at more i

-- ---- functions of the library

abbrev pub is_group : Thing → Bool
is_group (thing.Group d) = true
is_group _ = false

abbrev pub is_function_object : Thing → Bool
is_function_object (thing.FunctionObject f k) = true
is_function_object _ = false

abbrev pub is_identity : Thing → Bool
is_identity thing.InitializeToIdentity = true
is_identity _ = false

-- a function object combines values of the kind: no Bool, and no other kind is written at it
abbrev pub combines : Option Thing → Kind → Bool
combines (Some (thing.FunctionObject f (Some j))) k = same_kind j k && not (same_kind k kind.Bool)
combines _ k = not (same_kind k kind.Bool)

abbrev pub element_kind : Option Thing → Option Kind
element_kind (Some (thing.Buffer k d)) = Some k
element_kind _ = None

abbrev pub fit_combined : Option Thing → Option Kind → Fit
fit_combined op None = Fits
fit_combined op (Some k) = element_if (combines op k)

abbrev pub fit_reduction : List SeenArgument → Fit
fit_reduction (b ∷ h ∷ op ∷ []) =
    both (arguments_if (may_be is_buffer b && (may_be is_handler h && may_be is_function_object op))) (fit_combined (type_in op) (element_kind (type_in b)))
fit_reduction (b ∷ h ∷ op ∷ i ∷ []) =
    both (arguments_if (may_be is_buffer b && (may_be is_handler h && (may_be is_function_object op && may_be is_identity i)))) (fit_combined (type_in op) (element_kind (type_in b)))
fit_reduction _ = WrongArguments

abbrev pub fit_combining : List SeenArgument → Fit
fit_combining (g ∷ x ∷ op ∷ []) =
    both (arguments_if (may_be is_group g && (may_be is_integer x && may_be is_function_object op))) (fit_combined (type_in op) (kind_of (type_in x)))
fit_combining _ = WrongArguments

abbrev pub fit_broadcast : List SeenArgument → Fit
fit_broadcast (g ∷ x ∷ []) = arguments_if (may_be is_group g && may_be is_integer x)
fit_broadcast (g ∷ x ∷ i ∷ []) = arguments_if (may_be is_group g && (may_be is_integer x && may_be is_integer i))
fit_broadcast _ = WrongArguments

abbrev pub fit_library : LibraryFunction → List SeenArgument → Fit
fit_library function.Reduction xs = fit_reduction xs
fit_library function.GroupBroadcast xs = fit_broadcast xs
fit_library _ xs = fit_combining xs

abbrev pub reduction_type : Option Thing → Option Thing → Option Thing
reduction_type (Some (thing.Buffer k d)) (Some (thing.FunctionObject f j)) = Some (thing.Reduction k f)
reduction_type _ _ = None

abbrev pub reduction_of : List SeenArgument → Option Thing
reduction_of (b ∷ h ∷ op ∷ more) = reduction_type (type_in b) (type_in op)
reduction_of _ = None

abbrev pub integer_of : Option Kind → Option Thing
integer_of None = None
integer_of (Some k) = Some (thing.Integer k)

-- the kind of the value
abbrev pub value_of : List SeenArgument → Option Thing
value_of (g ∷ x ∷ more) = integer_of (kind_of (type_in x))
value_of _ = None

abbrev pub library_gives : LibraryFunction → List SeenArgument → Option Thing
library_gives function.Reduction xs = reduction_of xs
library_gives _ xs = value_of xs

abbrev pub library_row : LibraryFunction → List SeenArgument → Row
library_row f xs = record { fit = fit_library f xs; gives = library_gives f xs }

abbrev pub is_reduction_call : LibraryFunction → Bool
is_reduction_call function.Reduction = true
is_reduction_call _ = false
