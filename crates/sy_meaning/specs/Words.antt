-- Objects as lists of words. Its type says how many words an object has, and what each of them is.
use Rattle.std.specs.Ordering.{int_eq}
use Rattle.std.specs.Prelude.{Bool, List, [], drop, false, if◌then◌else◌, map, pos, slice_index_or, suc, take, true, unsigned_abs, zero, ℕ, ℤ, ◌*◌, ◌+◌, ◌∷◌}
use Rattle.sy_access.specs.declared.devices.Device.{Device}
use Rattle.sy_num.specs.Operators.{truth}
use Rattle.sy_num.specs.Scalars.{Scalar, converted_num, reduced, scalar}
use Rattle.sy_num.specs.declared.Kind.{Kind}
use Rattle.sy_num.specs.declared.Kind.TheVariants as kinds
use Rattle.sy_typed.specs.Things.{dimension_count}
use Rattle.sy_typed.specs.declared.things.Thing.{Thing}
use Rattle.sy_typed.specs.declared.things.Thing.TheVariants as thing

-- an integer is one word. What has no words, as a tag or a handler, is the empty list
abbrev pub Object : Type 0
Object = List ℤ

abbrev pub nothing : Object
nothing = []

abbrev pub word : ℕ → Object → ℤ
word k o = slice_index_or o k (pos 0)

abbrev pub natural : ℕ → Object → ℕ
natural k o = unsigned_abs (word k o)

abbrev pub naturals : ℕ → Object → List ℕ
naturals k o = map unsigned_abs (drop k o)

abbrev pub of_naturals : List ℕ → Object
of_naturals ns = map pos ns

abbrev pub of_scalar : Scalar → Object
of_scalar s = s.num ∷ []

-- ---- the words of each type

-- what stands for itself alone
abbrev pub is_sign : Thing → Bool
is_sign (thing.NdItem d) = true
is_sign (thing.Group d) = true
is_sign thing.Handler = true
is_sign (thing.FunctionObject f k) = true
is_sign (thing.AccessTag g) = true
is_sign thing.InOrder = true
is_sign thing.InitializeToIdentity = true
is_sign thing.Void = true
is_sign t = false

-- a type without dimensions
abbrev pub plain_width : Thing → ℕ
plain_width thing.Queue = 3
plain_width thing.Context = 3
plain_width thing.DeviceVector = 3
plain_width thing.Device = 2
plain_width (thing.Reduction k f) = 2
plain_width t = if is_sign t then 0 else 1

-- how many words an object of the type has
abbrev pub width : Thing → ℕ
width (thing.Range d) = dimension_count d
width (thing.Id d) = dimension_count d
width (thing.Item d) = dimension_count d
width (thing.NdRange d) = dimension_count d + dimension_count d
width (thing.Buffer k d) = 3 + dimension_count d
width (thing.Accessor k d m) = 2 + dimension_count d
width (thing.HostAccessor k d m) = 2 + dimension_count d
width (thing.LocalAccessor k d) = 2 + dimension_count d
width (thing.Indexed k d wanted m) = 2 + dimension_count wanted
width t = plain_width t

-- a device: its first unit, and how many it has
abbrev pub device_from : ℕ → Object → Device
device_from k o = record { first = natural k o; units = natural (k + 1) o }

abbrev pub device_words : Device → Object
device_words d = of_naturals (d.first ∷ d.units ∷ [])

-- a queue: its number, and its device
abbrev pub queue_number : Object → ℕ
queue_number o = natural 0 o

abbrev pub queue_device : Object → Device
queue_device o = device_from 1 o

-- a context: its place, and its device
abbrev pub context_place : Object → ℕ
context_place o = natural 0 o

abbrev pub context_device : Object → Device
context_device o = device_from 1 o

-- a vector of devices: the first one, and how many of the same size there are from it on
abbrev pub device_at : Object → ℕ → Device
device_at o k = record { first = natural 0 o + k * natural 1 o; units = natural 1 o }

abbrev pub device_count : Object → ℕ
device_count o = natural 2 o

-- a buffer: its number, that of its root, the first of its elements in the root, and its extents
abbrev pub buffer_number : Object → ℕ
buffer_number o = natural 0 o

abbrev pub buffer_root : Object → ℕ
buffer_root o = natural 1 o

abbrev pub buffer_first : Object → ℕ
buffer_first o = natural 2 o

abbrev pub buffer_extents : Object → List ℕ
buffer_extents o = naturals 3 o

-- an accessor: the number of its root, local accessor or host access, its first element there, and its extents
abbrev pub accessor_owner : Object → ℕ
accessor_owner o = natural 0 o

abbrev pub accessor_first : Object → ℕ
accessor_first o = natural 1 o

abbrev pub accessor_extents : Object → List ℕ
accessor_extents o = naturals 2 o

-- a vector's element: the index of the vector, and its own
abbrev pub element_vector : Object → ℕ
element_vector o = natural 0 o

abbrev pub element_index : Object → ℕ
element_index o = natural 1 o

-- an nd_range: the extents of its global range, and those of its local one
abbrev pub global_extents : Thing → Object → List ℕ
global_extents (thing.NdRange d) o = take (dimension_count d) (naturals 0 o)
global_extents t o = naturals 0 o

abbrev pub local_extents : Thing → Object → List ℕ
local_extents (thing.NdRange d) o = naturals (dimension_count d) o
local_extents t o = naturals 0 o

-- a reduction: the index of its variable's need, and whether the variable's former value takes part
abbrev pub reduction_index : Object → ℕ
reduction_index o = natural 0 o

abbrev pub reduction_keeps : Object → Bool
reduction_keeps o = int_eq (word 1 o) (pos 1)

-- ---- what a type says

-- the kind of an integer, of the integer that an id or item stands for, or of the elements
abbrev pub kind_in : Thing → Kind
kind_in (thing.Integer k) = k
kind_in (thing.Id d) = kinds.ULong
kind_in (thing.Item d) = kinds.ULong
kind_in (thing.Vector k) = k
kind_in (thing.Buffer k d) = k
kind_in (thing.Accessor k d m) = k
kind_in (thing.HostAccessor k d m) = k
kind_in (thing.LocalAccessor k d) = k
kind_in (thing.Indexed k d wanted m) = k
kind_in (thing.Reduction k f) = k
kind_in (thing.Reducer k f) = k
kind_in t = kinds.Int

-- the extents of a range or buffer, those that an accessor has left, or the coordinates of an id
abbrev pub extents_of : Thing → Object → List ℕ
extents_of (thing.Range d) o = naturals 0 o
extents_of (thing.Id d) o = naturals 0 o
extents_of (thing.Item d) o = naturals 0 o
extents_of (thing.Buffer k d) o = buffer_extents o
extents_of t o = accessor_extents o

-- ---- integers

-- a number that stands for a value of the kind: modulo 2^N where it isn't in the kind's range
abbrev pub taken_as : Kind → ℤ → Object
taken_as k z = reduced k z ∷ []

abbrev pub unsigned_long : ℕ → Object
unsigned_long n = taken_as kinds.ULong (pos n)

abbrev pub truth_of : Bool → Object
truth_of b = of_scalar (truth b)

-- the value as an integer
abbrev pub scalar_of : Thing → Object → Scalar
scalar_of t o = scalar (kind_in t) (word 0 o)

abbrev pub is_zero : Object → Bool
is_zero o = int_eq (word 0 o) (pos 0)

-- the value converted to a kind (C++17, "Integral conversions", "Boolean conversions")
abbrev pub number_as : Kind → Object → ℤ
number_as k o = converted_num k (word 0 o)

-- the value converted to `size_t`
abbrev pub count_of : Object → ℕ
count_of o = unsigned_abs (number_as kinds.ULong o)

-- ---- initialization

-- so many words: cut, or filled up with zeros
abbrev pub sized : ℕ → Object → Object
sized zero o = []
sized (suc n) [] = pos 0 ∷ sized n []
sized (suc n) (z ∷ zs) = z ∷ sized n zs

-- what an object of this type holds that is initialized with the value: an integer is converted
abbrev pub as_thing : Thing → Object → Object
as_thing (thing.Integer k) o = number_as k o ∷ []
as_thing t o = sized (width t) o
