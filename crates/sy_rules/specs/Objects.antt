-- What objects of the library are made of. (SYCL 2020, "Device class", "Context class", "Queue class", "Buffer class",
-- "Accessors", "Ranges and index space identifiers")
use Rattle.std.specs.Prelude.{Bool, true, false, if◌then◌else◌, not, ◌&&◌, ◌||◌, nat_le, List, [], ◌∷◌, length, Option, Some, None}
use Rattle.sy_access.specs.declared.Mode.{Mode}
use Rattle.sy_access.specs.declared.Mode.TheVariants as mode
use Rattle.sy_num.specs.declared.Kind.{Kind}
use Rattle.sy_num.specs.declared.Kind.TheVariants as kind
use Rattle.sy_tree.specs.declared.parts.AccessTag.TheVariants as tag
use Rattle.sy_tree.specs.declared.parts.Brackets.{Brackets}
use Rattle.sy_tree.specs.declared.parts.Brackets.TheVariants as brackets
use Rattle.sy_tree.specs.declared.parts.ElementArguments.{ElementArguments}
use Rattle.sy_tree.specs.declared.parts.ObjectType.{ObjectType}
use Rattle.sy_tree.specs.declared.parts.ObjectType.TheVariants as object
use Rattle.sy_typed.specs.declared.things.Dimensions.{Dimensions}
use Rattle.sy_typed.specs.declared.things.Dimensions.TheVariants.{One}
use Rattle.sy_typed.specs.declared.things.Thing.{Thing}
use Rattle.sy_typed.specs.declared.things.Thing.TheVariants as thing
use Rattle.sy_rules.specs.declared.seen.Denotes.{Denotes}
use Rattle.sy_rules.specs.declared.seen.Denotes.TheVariants as denotes
use Rattle.sy_rules.specs.declared.seen.Seen.{Seen}
use Rattle.sy_rules.specs.declared.library.Fit.{Fit}
use Rattle.sy_rules.specs.declared.library.Fit.TheVariants.{Fits, WrongArguments}
use Rattle.sy_rules.specs.declared.library.Row.{Row}
use Rattle.sy_rules.specs.declared.library.Wanted.{Wanted}
use Rattle.sy_rules.specs.declared.library.Wanted.TheVariants as wanted
use Rattle.sy_rules.specs.declared.seen.SeenArgument.{SeenArgument}
use Rattle.sy_rules.specs.declared.seen.SeenArgument.TheVariants as argument
use Rattle.sy_rules.specs.declared.seen.SeenInitializer.{SeenInitializer}
use Rattle.sy_rules.specs.declared.seen.SeenInitializer.TheVariants as initializer
use Rattle.sy_rules.specs.Fit.{both, arguments_if, element_if, row, may_be, type_in, all_integers, one_given, wanted_of, wanted_by, fit_dimensions, fit_count, fit_range, fit_range_type}
use Rattle.sy_rules.specs.Literals.{dimensions_written, dimensions_numbered}
use Rattle.sy_rules.specs.Seen.{is_integer, same_kind, is_known}

-- ---- types that arguments are asked for

abbrev pub is_device : Thing → Bool
is_device thing.Device = true
is_device _ = false

abbrev pub is_context : Thing → Bool
is_context thing.Context = true
is_context _ = false

abbrev pub is_handler : Thing → Bool
is_handler thing.Handler = true
is_handler _ = false

abbrev pub is_buffer : Thing → Bool
is_buffer (thing.Buffer k d) = true
is_buffer _ = false

abbrev pub is_in_order : Thing → Bool
is_in_order thing.InOrder = true
is_in_order _ = false

abbrev pub is_tag : Thing → Bool
is_tag (thing.AccessTag t) = true
is_tag _ = false

abbrev pub is_no_init : Thing → Bool
is_no_init (thing.AccessTag tag.NoInit) = true
is_no_init _ = false

abbrev pub is_writing_tag : Thing → Bool
is_writing_tag (thing.AccessTag tag.WriteOnly) = true
is_writing_tag (thing.AccessTag tag.ReadWrite) = true
is_writing_tag _ = false

-- ---- queue, device, context

abbrev pub fit_queue : List SeenArgument → Fit
fit_queue [] = Fits
fit_queue (a ∷ []) = arguments_if (may_be is_in_order a || may_be is_device a)
fit_queue (a ∷ b ∷ []) = arguments_if ((may_be is_device a && may_be is_in_order b) || (may_be is_context a && may_be is_device b))
fit_queue (a ∷ b ∷ c ∷ []) = arguments_if (may_be is_context a && (may_be is_device b && may_be is_in_order c))
fit_queue _ = WrongArguments

abbrev pub fit_device : List SeenArgument → Fit
fit_device [] = Fits
fit_device xs = one_given (may_be is_device) xs

-- ---- accessors

-- a mode tag and no_init may each be left out, and no_init doesn't go with read_only
abbrev pub are_tags : List SeenArgument → Bool
are_tags [] = true
are_tags (a ∷ []) = may_be is_tag a
are_tags (a ∷ b ∷ []) = may_be is_writing_tag a && may_be is_no_init b
are_tags _ = false

abbrev pub mode_of_type : Option Thing → Mode
mode_of_type (Some (thing.AccessTag tag.ReadOnly)) = mode.Read
mode_of_type (Some (thing.AccessTag tag.WriteOnly)) = mode.Write
mode_of_type _ = mode.ReadWrite

-- read-write where no tag stands
abbrev pub mode_of_tags : List SeenArgument → Mode
mode_of_tags [] = mode.ReadWrite
mode_of_tags (a ∷ more) = mode_of_type (type_in a)

abbrev pub accessor_to : Option Thing → Mode → Option Thing
accessor_to (Some (thing.Buffer k d)) m = Some (thing.Accessor k d m)
accessor_to _ m = None

abbrev pub host_accessor_to : Option Thing → Mode → Option Thing
host_accessor_to (Some (thing.Buffer k d)) m = Some (thing.HostAccessor k d m)
host_accessor_to _ m = None

abbrev pub accessor_row : List SeenArgument → Row
accessor_row (a ∷ h ∷ tags) = record {
  fit = arguments_if (may_be is_buffer a && (may_be is_handler h && are_tags tags));
  gives = accessor_to (type_in a) (mode_of_tags tags);
}
accessor_row _ = record { fit = WrongArguments; gives = None }

abbrev pub host_accessor_row : List SeenArgument → Row
host_accessor_row (a ∷ tags) = record {
  fit = arguments_if (may_be is_buffer a && are_tags tags);
  gives = host_accessor_to (type_in a) (mode_of_tags tags);
}
host_accessor_row _ = record { fit = WrongArguments; gives = None }

-- the dimensions that stand behind an element's type: one where none do
abbrev pub element_dimensions : ElementArguments → Option Dimensions
element_dimensions t = elim t.dimensions [ None ↦ Some One | Some x ↦ dimensions_written x.text ]

abbrev pub elements_of : (Dimensions → Thing) → Option Dimensions → Option Thing
elements_of f None = None
elements_of f (Some d) = Some (f d)

abbrev pub fit_local_accessor : ElementArguments → List SeenArgument → Fit
fit_local_accessor t (r ∷ h ∷ []) = both (fit_range (wanted_of (element_dimensions t)) r) (arguments_if (may_be is_handler h))
fit_local_accessor t _ = WrongArguments

abbrev pub local_accessor_row : ElementArguments → List SeenArgument → Row
local_accessor_row t xs = record {
  fit = fit_local_accessor t xs;
  gives = elements_of (λ d. thing.LocalAccessor t.element.kind d) (element_dimensions t);
}

-- ---- range, id

-- one to three integers, so many as dimensions are wanted
abbrev pub fit_integers : Wanted → List SeenArgument → Fit
fit_integers w [] = WrongArguments
fit_integers w xs = both (arguments_if (all_integers xs && nat_le (length xs) 3)) (fit_count w (length xs))

abbrev pub dimensions_of_range : Option Thing → Option Dimensions
dimensions_of_range (Some (thing.Range d)) = Some d
dimensions_of_range _ = None

abbrev pub dimensions_of_id : Option Thing → Option Dimensions
dimensions_of_id (Some (thing.Id d)) = Some d
dimensions_of_id _ = None

-- one value: of the same type, or an integer
abbrev pub fit_one : Wanted → SeenArgument → Option Dimensions → Fit
fit_one w a (Some d) = fit_dimensions w d
fit_one w (argument.Value a) None = if is_known a then fit_integers w (argument.Value a ∷ []) else Fits
fit_one w a None = WrongArguments

-- `same` gives the dimensions of a value of the same type
abbrev pub fit_counted : (Option Thing → Option Dimensions) → Wanted → List SeenArgument → Fit
fit_counted same w (a ∷ []) = fit_one w a (same (type_in a))
fit_counted same w xs = fit_integers w xs

abbrev pub or_else : {T : Type 0} → Option T → Option T → Option T
or_else (Some x) y = Some x
or_else None y = y

abbrev pub counted_dimensions : (Option Thing → Option Dimensions) → List SeenArgument → Option Dimensions
counted_dimensions same (a ∷ []) = or_else (same (type_in a)) (Some One)
counted_dimensions same xs = dimensions_numbered (length xs)

-- those that are written, else those that are found
abbrev pub made_dimensions : Wanted → Option Dimensions → Option Dimensions
made_dimensions (wanted.Written d) found = Some d
made_dimensions wanted.Unknown found = None
made_dimensions wanted.Unwritten found = found

abbrev pub range_row : Wanted → List SeenArgument → Row
range_row w xs = record {
  fit = fit_counted dimensions_of_range w xs;
  gives = elements_of (λ d. thing.Range d) (made_dimensions w (counted_dimensions dimensions_of_range xs));
}

abbrev pub id_row : Wanted → List SeenArgument → Row
id_row w xs = record {
  fit = fit_counted dimensions_of_id w xs;
  gives = elements_of (λ d. thing.Id d) (made_dimensions w (counted_dimensions dimensions_of_id xs));
}

-- ---- nd_range

-- each of its two ranges may be an integer in one dimension
abbrev pub fit_integer_side : Wanted → Fit
fit_integer_side (wanted.Written One) = Fits
fit_integer_side wanted.Unknown = Fits
fit_integer_side _ = WrongArguments

abbrev pub fit_side_type : Wanted → Option Thing → Fit
fit_side_type w (Some t) = if is_integer t then fit_integer_side w else fit_range_type w (Some t)
fit_side_type w None = Fits

abbrev pub fit_side : Wanted → SeenArgument → Fit
fit_side w (argument.Value a) = fit_side_type w a.what
fit_side w x = fit_range w x

abbrev pub fit_nd_range_value : Wanted → Option Thing → Fit
fit_nd_range_value w (Some (thing.NdRange d)) = fit_dimensions w d
fit_nd_range_value w None = Fits
fit_nd_range_value w (Some _) = WrongArguments

-- where no dimensions are written, the second range has those of the first
abbrev pub wanted_after : Wanted → SeenArgument → Wanted
wanted_after wanted.Unwritten a = elim (dimensions_of_range (type_in a)) [ None ↦ wanted.Unwritten | Some d ↦ wanted.Written d ]
wanted_after w a = w

abbrev pub fit_second_side : Wanted → Wanted → SeenArgument → Fit
fit_second_side wanted.Unwritten v b = both (fit_side wanted.Unwritten b) (fit_side v b)
fit_second_side w v b = fit_side w b

abbrev pub fit_nd_range : Wanted → List SeenArgument → Fit
fit_nd_range w (argument.Value a ∷ []) = fit_nd_range_value w a.what
fit_nd_range w (a ∷ b ∷ []) = both (fit_side w a) (fit_second_side w (wanted_after w a) b)
fit_nd_range w _ = WrongArguments

abbrev pub dimensions_of_nd_range : Option Thing → Option Dimensions
dimensions_of_nd_range (Some (thing.NdRange d)) = Some d
dimensions_of_nd_range (Some (thing.Range d)) = Some d
dimensions_of_nd_range _ = None

abbrev pub first_type : List SeenArgument → Option Thing
first_type [] = None
first_type (a ∷ more) = type_in a

abbrev pub nd_range_row : Wanted → List SeenArgument → Row
nd_range_row w xs = record {
  fit = fit_nd_range w xs;
  gives = elements_of (λ d. thing.NdRange d) (made_dimensions w (dimensions_of_nd_range (first_type xs)));
}

-- ---- buffer: over a vector, of a range, or a part of another one

abbrev pub fit_element : Option ElementArguments → Kind → Fit
fit_element None k = Fits
fit_element (Some t) k = element_if (same_kind t.element.kind k)

abbrev pub buffer_wanted : Option ElementArguments → Wanted
buffer_wanted None = wanted.Unwritten
buffer_wanted (Some t) = wanted_of (element_dimensions t)

abbrev pub is_changeable : Denotes → Bool
is_changeable (denotes.Place fixed) = not fixed
is_changeable _ = false

-- the name itself, of what isn't const
abbrev pub is_open_name : Seen → Bool
is_open_name a = a.is_bare && is_changeable a.denotes

abbrev pub fit_only : Option ElementArguments → Seen → Option Thing → Fit
fit_only t a None = Fits
fit_only t a (Some (thing.Vector k)) = both (arguments_if (is_open_name a)) (both (fit_dimensions (buffer_wanted t) One) (fit_element t k))
fit_only None a (Some _) = WrongArguments
fit_only t a what = fit_range_type (buffer_wanted t) what

abbrev pub fit_data : Option ElementArguments → Seen → Option Thing → Fit
fit_data t a None = Fits
fit_data t a (Some (thing.Data k)) = both (arguments_if (is_open_name a)) (fit_element t k)
fit_data t a (Some _) = WrongArguments

abbrev pub fit_id_type : Dimensions → Option Thing → Fit
fit_id_type d None = Fits
fit_id_type d (Some (thing.Id e)) = fit_dimensions (wanted.Written d) e
fit_id_type d (Some _) = WrongArguments

abbrev pub fit_id : Dimensions → SeenArgument → Fit
fit_id d (argument.Value a) = fit_id_type d a.what
fit_id d _ = WrongArguments

abbrev pub fit_part : Option ElementArguments → Seen → Option Thing → SeenArgument → SeenArgument → Fit
fit_part t a (Some (thing.Buffer k d)) i r =
    both (arguments_if a.is_bare)
    (both (fit_id d i) (both (fit_range (wanted.Written d) r) (both (fit_dimensions (buffer_wanted t) d) (fit_element t k))))
fit_part t a None i r = Fits
fit_part t a (Some _) i r = WrongArguments

abbrev pub fit_buffer : Option ElementArguments → List SeenArgument → Fit
fit_buffer t (argument.Value a ∷ []) = fit_only t a a.what
fit_buffer None (a ∷ []) = WrongArguments
fit_buffer (Some t) (a ∷ []) = fit_range (wanted_of (element_dimensions t)) a
fit_buffer t (argument.Value a ∷ r ∷ []) = both (fit_data t a a.what) (fit_range (buffer_wanted t) r)
fit_buffer t (argument.Value a ∷ i ∷ r ∷ []) = fit_part t a a.what i r
fit_buffer t _ = WrongArguments

abbrev pub data_buffer : Option Thing → Option Thing → Option Thing
data_buffer (Some (thing.Data k)) (Some (thing.Range d)) = Some (thing.Buffer k d)
data_buffer _ _ = None

abbrev pub vector_buffer : Option Thing → Option Thing
vector_buffer (Some (thing.Vector k)) = Some (thing.Buffer k One)
vector_buffer _ = None

abbrev pub found_buffer : List SeenArgument → Option Thing
found_buffer (a ∷ []) = vector_buffer (type_in a)
found_buffer (a ∷ r ∷ []) = data_buffer (type_in a) (type_in r)
found_buffer xs = first_type xs

abbrev pub buffer_made : Option ElementArguments → List SeenArgument → Option Thing
buffer_made (Some t) xs = elements_of (λ d. thing.Buffer t.element.kind d) (element_dimensions t)
buffer_made None xs = found_buffer xs

abbrev pub buffer_row : Option ElementArguments → List SeenArgument → Row
buffer_row t xs = record { fit = fit_buffer t xs; gives = buffer_made t xs }

-- ---- all of them

abbrev pub object_row : ObjectType → List SeenArgument → Row
object_row (object.Queue q) xs = row (fit_queue xs) thing.Queue
object_row (object.Device q) xs = row (fit_device xs) thing.Device
object_row (object.Context q) xs = row (fit_device xs) thing.Context
object_row (object.Event q) xs = row Fits thing.Event
object_row (object.Accessor q) xs = accessor_row xs
object_row (object.HostAccessor q) xs = host_accessor_row xs
object_row (object.LocalAccessor q t) xs = local_accessor_row t xs
object_row (object.Buffer q t) xs = buffer_row t xs
object_row (object.Range q d) xs = range_row (wanted_by d) xs
object_row (object.Id q d) xs = id_row (wanted_by d) xs
object_row (object.NdRange q d) xs = nd_range_row (wanted_by d) xs

-- ---- vectors of integers: empty; of a count; of a count and a value; of the values in braces

abbrev pub fit_vector_arguments : Brackets → List SeenArgument → Fit
fit_vector_arguments brackets.Braces xs = arguments_if (all_integers xs)
fit_vector_arguments brackets.Parentheses [] = WrongArguments
fit_vector_arguments brackets.Parentheses xs = arguments_if (all_integers xs && nat_le (length xs) 2)

abbrev pub fit_vector_initializer : Option SeenInitializer → Fit
fit_vector_initializer None = Fits
fit_vector_initializer (Some (initializer.Copy a)) = arguments_if (not (is_known a))
fit_vector_initializer (Some (initializer.Direct b xs)) = fit_vector_arguments b xs

-- no vector of bool
abbrev pub fit_vector : Kind → Option SeenInitializer → Fit
fit_vector k i = both (arguments_if (not (same_kind k kind.Bool))) (fit_vector_initializer i)

-- a vector of devices is what a call of create_sub_devices gives, behind `=`
abbrev pub is_call_of : (Thing → Bool) → Seen → Bool
is_call_of p a = elim a.what [ None ↦ true | Some t ↦ p t && elim a.variable [ None ↦ true | Some v ↦ false ] ]

abbrev pub is_device_vector : Thing → Bool
is_device_vector thing.DeviceVector = true
is_device_vector _ = false

abbrev pub is_event : Thing → Bool
is_event thing.Event = true
is_event _ = false

abbrev pub fit_device_vector : Option SeenInitializer → Fit
fit_device_vector (Some (initializer.Copy a)) = arguments_if (is_call_of is_device_vector a)
fit_device_vector _ = WrongArguments

-- an event is what a call of submit gives, behind `=`
abbrev pub is_submitted : Option SeenInitializer → Bool
is_submitted (Some (initializer.Copy a)) = is_call_of is_event a
is_submitted _ = false

-- `=` gives one argument
abbrev pub arguments_of : Option SeenInitializer → List SeenArgument
arguments_of None = []
arguments_of (Some (initializer.Copy a)) = argument.Value a ∷ []
arguments_of (Some (initializer.Direct b xs)) = xs
