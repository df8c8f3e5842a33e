-- Lvalues: how locals and elements are found, read and written.
use Rattle.std.specs.Prelude.{List, None, Option, Some, [], if◌then◌else◌, is_some, length, nat_lt, pos, slice_get, slice_index_or, slice_set, unwrap_or, ℕ, ℤ, ◌*◌, ◌+◌, ◌∷◌}
use Rattle.sy_access.specs.Logs.{logged, same_cell}
use Rattle.sy_access.specs.declared.cells.Cell.{Cell}
use Rattle.sy_access.specs.declared.cells.Cell.TheVariants as cell
use Rattle.sy_num.specs.Scalars.{Scalar}
use Rattle.sy_num.specs.declared.Kind.{Kind}
use Rattle.sy_range.specs.LinearIds.{product}
use Rattle.sy_typed.specs.declared.things.Thing.{Thing}
use Rattle.sy_typed.specs.declared.things.Thing.TheVariants as thing
use Rattle.sy_work.specs.declared.endings.Cause.TheVariants as cause
use Rattle.sy_meaning.specs.declared.runs.Area.{Area}
use Rattle.sy_meaning.specs.declared.runs.Area.TheVariants as areas
use Rattle.sy_meaning.specs.declared.runs.Location.{Location}
use Rattle.sy_meaning.specs.declared.runs.Location.TheVariants as location
use Rattle.sy_meaning.specs.declared.runs.Row.{Row}
use Rattle.sy_meaning.specs.declared.runs.Step.{Step}
use Rattle.sy_meaning.specs.declared.runs.Step.TheVariants as steps
use Rattle.sy_meaning.specs.declared.runs.World.{World}
use Rattle.sy_meaning.specs.Words.{Object, accessor_extents, accessor_first, accessor_owner, count_of, device_at, device_count, device_words, element_index, element_vector, natural, naturals, nothing, of_naturals, of_scalar, taken_as, unsigned_long}
use Rattle.sy_meaning.specs.Frame.{access_at, local, put, put_access, put_values, row_at}
use Rattle.sy_meaning.specs.Outcomes.{Ex, Op, gives, inside, traps}

-- ---- cells, in a work item: each touch is a step of the phase

-- the item's own last write in the phase
abbrev pub own : List Step → Cell → Option ℤ
own [] c = None
own (steps.Read d line ∷ ss) c = own ss c
own (steps.Wrote d z line ∷ ss) c = if same_cell d c then Some z else own ss c

abbrev pub own_or_stored : Option ℤ → List (Cell × ℤ) → Cell → ℤ
own_or_stored (Some z) cells c = z
own_or_stored None cells c = unwrap_or (logged cells c) (pos 0)

-- an item sees the store of its phase and its own writes
abbrev pub number_at : Cell → World → ℤ
number_at c w = own_or_stored (own w.steps c) w.store.cells c

abbrev pub stepped : Step → World → World
stepped s w = record w { steps = s ∷ w.steps }

abbrev pub read_cell : ℕ → Kind → Cell → Op
read_cell line k c w = gives (taken_as k (number_at c w)) (stepped (steps.Read c line) w)

abbrev pub write_cell : ℕ → Cell → Scalar → Op
write_cell line c s w = gives (of_scalar s) (stepped (steps.Wrote c s.num line) w)

-- ---- elements of accessors, by the number of their owner (SYCL 2020, "Accessors")

abbrev pub read_area : ℕ → Kind → Area → ℕ → ℕ → Op
read_area line k areas.Root b i = read_cell line k (cell.Buffer b i)
read_area line k areas.Local s i = read_cell line k (cell.Local s i)
read_area line k areas.Access a i = λ w. gives (taken_as k (slice_index_or (access_at a w) i (pos 0))) w

abbrev pub write_area : ℕ → Area → ℕ → ℕ → Scalar → Op
write_area line areas.Root b i s = write_cell line (cell.Buffer b i) s
write_area line areas.Local l i s = write_cell line (cell.Local l i) s
write_area line areas.Access a i s = λ w. gives (of_scalar s) (put_access a (slice_set (access_at a w) i s.num) w)

-- ---- elements of vectors: first Leased, then Index

abbrev pub with_row : ℕ → ℕ → (Row → Op) → Op
with_row line v go w = if is_some (row_at v w).leased then traps cause.Leased line w else go (row_at v w) w

abbrev pub picked : ℕ → Kind → Option ℤ → Op
picked line k None = traps cause.Index line
picked line k (Some z) = gives (taken_as k z)

abbrev pub read_element : ℕ → Kind → ℕ → ℕ → Op
read_element line k v i = with_row line v (λ row. picked line k (slice_get row.values i))

abbrev pub replaced : ℕ → ℕ → ℕ → Scalar → Row → Op
replaced line v i s row w =
    if nat_lt i (length row.values)
    then gives (of_scalar s) (put_values v (slice_set row.values i s.num) w)
    else traps cause.Index line w

abbrev pub write_element : ℕ → ℕ → ℕ → Scalar → Op
write_element line v i s = with_row line v (replaced line v i s)

-- ---- what an lvalue holds (C++17, "Lvalue-to-rvalue conversion", "Assignment and compound assignment operators")

-- the words say which element it is
abbrev pub load : ℕ → Kind → Location → Object → Ex
load line k location.Nowhere o = gives o
load line k (location.Local n) o = λ r. gives (local n r) r
load line k location.Element o = inside (read_element line k (element_vector o) (element_index o))
load line k (location.Cell a) o = inside (read_area line k a (accessor_owner o) (accessor_first o))

abbrev pub store : ℕ → Location → Object → Scalar → Ex
store line location.Nowhere o s = gives (of_scalar s)
store line (location.Local n) o s = λ r. gives (of_scalar s) (put n (of_scalar s) r)
store line location.Element o s = inside (write_element line (element_vector o) (element_index o) s)
store line (location.Cell a) o s = inside (write_area line a (accessor_owner o) (accessor_first o) s)

-- ---- indexes

-- what the elements of an object of the type are; one that was indexed before designates the same sort
abbrev pub element_of : Thing → Location → Location
element_of (thing.Vector k) l = location.Element
element_of (thing.Accessor k d m) l = location.Cell areas.Root
element_of (thing.HostAccessor k d m) l = location.Cell areas.Access
element_of (thing.LocalAccessor k d) l = location.Cell areas.Local
element_of (thing.Indexed k d wanted m) l = l
element_of t l = location.Nowhere

-- an id or item has all its coordinates as indexes
abbrev pub indexes : Thing → Object → List ℕ
indexes (thing.Id d) i = naturals 0 i
indexes (thing.Item d) i = naturals 0 i
indexes t i = count_of i ∷ []

-- each index takes a dimension off
abbrev pub index_accessor : ℕ → ℕ → ℕ → List ℕ → List ℕ → Op
index_accessor line owner first es [] w = gives (of_naturals (owner ∷ first ∷ es)) w
index_accessor line owner first [] (i ∷ is) w = gives nothing w
index_accessor line owner first (e ∷ es) (i ∷ is) w =
    if nat_lt i e then index_accessor line owner (first + i * product es) es is w else traps cause.Index line w

abbrev pub coordinate : ℕ → Option ℕ → Op
coordinate line None = traps cause.Index line
coordinate line (Some n) = gives (unsigned_long n)

abbrev pub thread_in : ℕ → Option ℤ → Op
thread_in line None = traps cause.Index line
thread_in line (Some t) = gives (t ∷ [])

abbrev pub device_in : ℕ → Object → ℕ → Op
device_in line o k w = if nat_lt k (device_count o) then gives (device_words (device_at o k)) w else traps cause.Index line w

-- an object of the first type, at an index of the second
abbrev pub index_into : ℕ → Thing → Thing → Object → Object → Op
index_into line (thing.Vector k) u o i = gives (of_naturals (natural 0 o ∷ count_of i ∷ []))
index_into line thing.ThreadVector u o i = λ w. thread_in line (slice_get (row_at (natural 0 o) w).values (count_of i)) w
index_into line thing.DeviceVector u o i = device_in line o (count_of i)
index_into line (thing.Range d) u o i = coordinate line (slice_get (naturals 0 o) (count_of i))
index_into line (thing.Id d) u o i = coordinate line (slice_get (naturals 0 o) (count_of i))
index_into line (thing.Item d) u o i = coordinate line (slice_get (naturals 0 o) (count_of i))
index_into line t u o i = index_accessor line (accessor_owner o) (accessor_first o) (accessor_extents o) (indexes u i)
