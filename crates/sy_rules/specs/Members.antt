-- The members of the library's objects, with their arguments and what they give; one clause a row.
-- (SYCL 2020, "Queue class", "Event class", "Device class", "Buffer class", "Accessors", "Ranges and index space
-- identifiers", "Reduction variables", "Command group handler class")
use Rattle.std.specs.Prelude.{ℕ, Bool, true, false, ◌&&◌, List, [], ◌∷◌, Option, Some, None, codes}
use Rattle.sy_access.specs.declared.Mode.{Mode}
use Rattle.sy_access.specs.declared.Mode.TheVariants as mode
use Rattle.sy_num.specs.declared.Kind.TheVariants as kind
use Rattle.sy_tree.specs.declared.parts.TemplateArgument.{TemplateArgument}
use Rattle.sy_tree.specs.declared.parts.TemplateArgument.TheVariants as template
use Rattle.sy_typed.specs.declared.things.Dimensions.{Dimensions}
use Rattle.sy_typed.specs.declared.things.Member.{Member}
use Rattle.sy_typed.specs.declared.things.Member.TheVariants as member
use Rattle.sy_typed.specs.declared.things.Thing.{Thing}
use Rattle.sy_typed.specs.declared.things.Thing.TheVariants as thing
use Rattle.sy_rules.specs.declared.library.Fit.{Fit}
use Rattle.sy_rules.specs.declared.library.Fit.TheVariants.{Fits, WrongArguments}
use Rattle.sy_rules.specs.declared.library.KernelIndex.{KernelIndex}
use Rattle.sy_rules.specs.declared.library.KernelIndex.TheVariants as index
use Rattle.sy_rules.specs.declared.library.Role.{Role}
use Rattle.sy_rules.specs.declared.library.Role.TheVariants as role
use Rattle.sy_rules.specs.declared.library.Row.{Row}
use Rattle.sy_rules.specs.declared.seen.SeenArgument.{SeenArgument}
use Rattle.sy_rules.specs.declared.seen.SeenArgument.TheVariants as argument
use Rattle.sy_rules.specs.Fit.{both, arguments_if, dimension_if, element_if, row, may_be, is_lambda, type_in, nothing_given, one_given}
use Rattle.sy_rules.specs.Objects.{is_event}
use Rattle.sy_rules.specs.Seen.{is_integer, same_dimensions, same_kind}
use Rattle.sy_rules.specs.Words.{is_information}

-- ---- what a lambda is given for

abbrev pub index_over : Option Thing → KernelIndex
index_over (Some (thing.Range d)) = index.OverRange d
index_over (Some (thing.NdRange d)) = index.OverNdRange d
index_over _ = index.Unknown

abbrev pub reducer_for : Option Thing → Option Thing
reducer_for (Some (thing.Reduction k f)) = Some (thing.Reducer k f)
reducer_for _ = None

-- the role of a lambda as an argument of parallel_for, behind these
abbrev pub kernel_after : List SeenArgument → Option Role
kernel_after (r ∷ []) = Some (role.Kernel (index_over (type_in r)) None)
kernel_after (r ∷ x ∷ []) = Some (role.Kernel (index_over (type_in r)) (Some (reducer_for (type_in x))))
kernel_after _ = None

abbrev pub if_first : Role → List SeenArgument → Option Role
if_first r [] = Some r
if_first r _ = None

-- the role of a lambda as an argument of a member, behind these arguments; `v` is the variable that the object is
abbrev pub member_role : Thing → ℕ → Member → List SeenArgument → Option Role
member_role thing.Queue v member.Submit before = if_first role.Group before
member_role thing.ThreadVector v member.EmplaceBack before = if_first (role.Thread v) before
member_role thing.Handler v member.SingleTask before = if_first (role.Kernel index.Absent None) before
member_role thing.Handler v member.ParallelFor before = kernel_after before
member_role _ v m before = None

-- ---- the commands of a handler

-- the dimensions of a range or an nd_range
abbrev pub extent_dimensions : Option Thing → Option Dimensions
extent_dimensions (Some (thing.Range d)) = Some d
extent_dimensions (Some (thing.NdRange d)) = Some d
extent_dimensions _ = None

abbrev pub is_extent : Thing → Bool
is_extent (thing.Range d) = true
is_extent (thing.NdRange d) = true
is_extent _ = false

abbrev pub is_reduction : Thing → Bool
is_reduction (thing.Reduction k f) = true
is_reduction _ = false

abbrev pub agree : Option Dimensions → Option Dimensions → Bool
agree (Some d) (Some e) = same_dimensions d e
agree _ _ = true

-- a kernel whose parameter has the dimensions of the range
abbrev pub fit_kernel : SeenArgument → SeenArgument → Fit
fit_kernel r (argument.Lambda l) = dimension_if (agree (extent_dimensions (type_in r)) l.dimensions)
fit_kernel r x = arguments_if (is_lambda x)

abbrev pub fit_parallel : List SeenArgument → Fit
fit_parallel (r ∷ x ∷ []) = both (arguments_if (may_be is_extent r)) (fit_kernel r x)
fit_parallel (r ∷ s ∷ x ∷ []) = both (arguments_if (may_be is_extent r && may_be is_reduction s)) (fit_kernel r x)
fit_parallel _ = WrongArguments

abbrev pub writes : Mode → Bool
writes mode.Read = false
writes _ = true

abbrev pub reads : Mode → Bool
reads mode.Write = false
reads _ = true

abbrev pub is_written_accessor : Thing → Bool
is_written_accessor (thing.Accessor k d m) = writes m
is_written_accessor _ = false

abbrev pub is_read_accessor : Thing → Bool
is_read_accessor (thing.Accessor k d m) = reads m
is_read_accessor _ = false

abbrev pub fit_fill : List SeenArgument → Fit
fit_fill (a ∷ x ∷ []) = arguments_if (may_be is_written_accessor a && may_be is_integer x)
fit_fill _ = WrongArguments

abbrev pub same_elements : Option Thing → Option Thing → Bool
same_elements (Some (thing.Accessor j d m)) (Some (thing.Accessor k e n)) = same_kind j k
same_elements _ _ = true

abbrev pub fit_copy : List SeenArgument → Fit
fit_copy (a ∷ b ∷ []) = both (arguments_if (may_be is_read_accessor a && may_be is_written_accessor b)) (element_if (same_elements (type_in a) (type_in b)))
fit_copy _ = WrongArguments

-- ---- members

abbrev pub size : Thing
size = thing.Integer kind.ULong

abbrev pub giving : List SeenArgument → Thing → Option Row
giving xs t = Some (row (nothing_given xs) t)

abbrev pub taking : (SeenArgument → Bool) → List SeenArgument → Thing → Option Row
taking p xs t = Some (row (one_given p xs) t)

-- `get(k)`, a number of one dimension
abbrev pub numbered : List SeenArgument → Option Row
numbered xs = taking (may_be is_integer) xs size

-- the whole without an argument, a number of one dimension with one
abbrev pub whole_or_numbered : Thing → List SeenArgument → Option Row
whole_or_numbered t [] = Some (row Fits t)
whole_or_numbered t xs = numbered xs

abbrev pub member_row : Thing → Member → List SeenArgument → Option Row
member_row thing.Queue member.Submit xs = taking is_lambda xs thing.Event
member_row thing.Queue member.Wait xs = giving xs thing.Void
member_row thing.Queue member.WaitAndThrow xs = giving xs thing.Void
member_row thing.Queue member.GetDevice xs = giving xs thing.Device
member_row thing.Event member.Wait xs = giving xs thing.Void
member_row thing.Device member.CreateSubDevices xs = taking (may_be is_integer) xs thing.DeviceVector
member_row thing.Device member.MaxComputeUnits xs = giving xs (thing.Integer kind.UInt)
member_row (thing.Buffer k d) member.GetRange xs = giving xs (thing.Range d)
member_row (thing.Buffer k d) member.Size xs = giving xs size
member_row (thing.Accessor k d m) member.GetRange xs = giving xs (thing.Range d)
member_row (thing.Accessor k d m) member.Size xs = giving xs size
member_row (thing.HostAccessor k d m) member.GetRange xs = giving xs (thing.Range d)
member_row (thing.HostAccessor k d m) member.Size xs = giving xs size
member_row (thing.LocalAccessor k d) member.GetRange xs = giving xs (thing.Range d)
member_row (thing.LocalAccessor k d) member.Size xs = giving xs size
member_row (thing.Vector k) member.Size xs = giving xs size
member_row (thing.Vector k) member.PushBack xs = taking (may_be is_integer) xs thing.Void
member_row (thing.Vector k) member.Data xs = giving xs (thing.Data k)
member_row thing.DeviceVector member.Size xs = giving xs size
member_row thing.ThreadVector member.Size xs = giving xs size
member_row thing.ThreadVector member.EmplaceBack xs = taking is_lambda xs thing.Void
member_row thing.Thread member.Join xs = giving xs thing.Void
member_row thing.Exception member.Code xs = giving xs thing.ErrorCode
member_row thing.Handler member.SingleTask xs = taking is_lambda xs thing.Void
member_row thing.Handler member.ParallelFor xs = Some (row (fit_parallel xs) thing.Void)
member_row thing.Handler member.Fill xs = Some (row (fit_fill xs) thing.Void)
member_row thing.Handler member.Copy xs = Some (row (fit_copy xs) thing.Void)
member_row thing.Handler member.DependsOn xs = taking (may_be is_event) xs thing.Void
member_row (thing.Range d) member.Get xs = numbered xs
member_row (thing.Id d) member.Get xs = numbered xs
member_row (thing.Item d) member.GetId xs = whole_or_numbered (thing.Id d) xs
member_row (thing.Item d) member.GetRange xs = whole_or_numbered (thing.Range d) xs
member_row (thing.Item d) member.GetLinearId xs = giving xs size
member_row (thing.NdItem d) member.GetGlobalId xs = whole_or_numbered (thing.Id d) xs
member_row (thing.NdItem d) member.GetLocalId xs = whole_or_numbered (thing.Id d) xs
member_row (thing.NdItem d) member.GetGlobalRange xs = numbered xs
member_row (thing.NdItem d) member.GetLocalRange xs = numbered xs
member_row (thing.NdItem d) member.GetGroupRange xs = numbered xs
member_row (thing.NdItem d) member.GetGroup xs = whole_or_numbered (thing.Group d) xs
member_row (thing.NdItem d) member.GetGlobalLinearId xs = giving xs size
member_row (thing.NdItem d) member.GetLocalLinearId xs = giving xs size
member_row (thing.NdItem d) member.GetGroupLinearId xs = giving xs size
member_row (thing.Group d) member.GetGroupLinearId xs = giving xs size
member_row (thing.Group d) member.GetLocalLinearId xs = giving xs size
member_row (thing.Reducer k f) member.Combine xs = taking (may_be is_integer) xs thing.Void
member_row _ m xs = None

-- ---- the words in `< >` behind a member

abbrev pub is_about : List ℕ → List ℕ → Option TemplateArgument → Bool
is_about of word None = false
is_about of word (Some t) = is_information of word t

abbrev pub names_a_kernel : Option TemplateArgument → Bool
names_a_kernel None = true
names_a_kernel (Some (template.Kernel c x)) = true
names_a_kernel (Some (template.Information q a b)) = false

abbrev pub are_absent : Option TemplateArgument → Bool
are_absent None = true
are_absent (Some t) = false

abbrev pub has_its_words : Member → Option TemplateArgument → Bool
has_its_words member.MaxComputeUnits t = is_about (codes "device") (codes "max_compute_units") t
has_its_words member.CreateSubDevices t = is_about (codes "partition_property") (codes "partition_equally") t
has_its_words member.SingleTask t = names_a_kernel t
has_its_words member.ParallelFor t = names_a_kernel t
has_its_words m t = are_absent t

-- what the name gives an object of the type
abbrev pub row_with : Option TemplateArgument → Member → Option Row → Option Row
row_with t m None = None
row_with t m (Some r) = Some (record r { fit = both (arguments_if (has_its_words m t)) r.fit })
