-- What a kernel and a command group may not use, and what only they may.
-- (SYCL 2020, "Language restrictions for device functions", "Command group scope")
use Rattle.std.specs.Prelude.{Bool, true, false, not, ◌&&◌, ◌||◌, List, ◌++◌, Option, Some, None}
use Rattle.sy_note.specs.declared.Spot.{Spot}
use Rattle.sy_tree.specs.declared.parts.ObjectType.{ObjectType}
use Rattle.sy_tree.specs.declared.parts.ObjectType.TheVariants as object
use Rattle.sy_tree.specs.declared.tree.Argument.TheOpen.{Expr-F}
use Rattle.sy_typed.specs.declared.things.Thing.{Thing}
use Rattle.sy_typed.specs.declared.things.Thing.TheVariants as thing
use Rattle.sy_rules.specs.declared.names.Named.{Named}
use Rattle.sy_rules.specs.declared.names.Names.{Names}
use Rattle.sy_rules.specs.declared.names.Taken.{Taken}
use Rattle.sy_rules.specs.declared.names.Taken.TheVariants as taken
use Rattle.sy_rules.specs.declared.names.Within.{Within}
use Rattle.sy_rules.specs.declared.names.Within.TheVariants as within
use Rattle.sy_rules.specs.Calls.{is_reduction_call}
use Rattle.sy_rules.specs.Layers.{SeenExpr}
use Rattle.sy_rules.specs.Names.{look_up}
use Rattle.sy_rules.specs.Outcome.{Finding, foreign_in}
use Rattle.sy_rules.specs.Seen.{passes}

abbrev pub is_group : Within → Bool
is_group within.Group = true
is_group _ = false

abbrev pub is_kernel : Within → Bool
is_kernel within.Kernel = true
is_kernel _ = false

abbrev pub is_host : Within → Bool
is_host within.Host = true
is_host _ = false

-- ---- names

-- the runtime's objects
abbrev pub foreign_to_kernels : Thing → Bool
foreign_to_kernels thing.Queue = true
foreign_to_kernels thing.Device = true
foreign_to_kernels thing.Context = true
foreign_to_kernels thing.Event = true
foreign_to_kernels (thing.Vector k) = true
foreign_to_kernels thing.DeviceVector = true
foreign_to_kernels thing.ThreadVector = true
foreign_to_kernels thing.Thread = true
foreign_to_kernels (thing.Buffer k d) = true
foreign_to_kernels thing.Handler = true
foreign_to_kernels _ = false

-- a group may give an event to depends_on, and use a buffer for accessors and reductions and ask its size
abbrev pub foreign_to_groups : Taken → Thing → Bool
foreign_to_groups t thing.Queue = true
foreign_to_groups t thing.Device = true
foreign_to_groups t thing.Context = true
foreign_to_groups taken.Dependency thing.Event = false
foreign_to_groups t thing.Event = true
foreign_to_groups t (thing.Vector k) = true
foreign_to_groups t thing.DeviceVector = true
foreign_to_groups t thing.ThreadVector = true
foreign_to_groups t thing.Thread = true
foreign_to_groups taken.Source (thing.Buffer k d) = false
foreign_to_groups t (thing.Buffer k d) = true
foreign_to_groups t thing.Exception = true
foreign_to_groups t _ = false

abbrev pub foreign_to : Within → Taken → Thing → Bool
foreign_to within.Host t x = false
foreign_to within.Group t x = foreign_to_groups t x
foreign_to within.Kernel t x = foreign_to_kernels x

abbrev pub type_of_name : Option Named → Option Thing
type_of_name None = None
type_of_name (Some v) = v.what

-- ---- objects

abbrev pub made_in_kernels : ObjectType → Bool
made_in_kernels (object.Range q d) = true
made_in_kernels (object.Id q d) = true
made_in_kernels _ = false

abbrev pub made_in_groups : ObjectType → Bool
made_in_groups (object.Accessor q) = true
made_in_groups (object.LocalAccessor q t) = true
made_in_groups (object.Range q d) = true
made_in_groups (object.Id q d) = true
made_in_groups (object.NdRange q d) = true
made_in_groups _ = false

abbrev pub made_in_host : ObjectType → Bool
made_in_host (object.Accessor q) = false
made_in_host (object.LocalAccessor q t) = false
made_in_host _ = true

abbrev pub is_made_in : Within → ObjectType → Bool
is_made_in within.Host t = true
is_made_in within.Group t = made_in_groups t
is_made_in within.Kernel t = made_in_kernels t

-- what is indexed in kernels and in host code alone
abbrev pub is_accessor : Thing → Bool
is_accessor (thing.Accessor k d m) = true
is_accessor (thing.HostAccessor k d m) = true
is_accessor (thing.LocalAccessor k d) = true
is_accessor (thing.Indexed k d l m) = true
is_accessor _ = false

-- ---- constructs

-- the construct is one that w doesn't allow
abbrev pub is_foreign : Within → Names → SeenExpr → Bool
is_foreign w n (Expr-F.Name x) = passes (foreign_to w n.setting.taken) (type_of_name (look_up n.entries x.text))
is_foreign w n (Expr-F.Construct t b s xs e) = not (is_made_in w t)
is_foreign w n (Expr-F.GroupBarrier q a e) = is_group w
is_foreign w n (Expr-F.LibraryCall q f xs e) = (is_group w && not (is_reduction_call f)) || (is_kernel w && is_reduction_call f)
is_foreign w n (Expr-F.Subscript a s i e) = is_group w && passes is_accessor a.what
is_foreign w n _ = false

abbrev pub foreign_uses : Names → SeenExpr → List Finding
foreign_uses n x = foreign_in (is_foreign within.Kernel n x) within.Kernel ++ foreign_in (is_foreign within.Group n x) within.Group

-- neither a kernel nor a group may have it
abbrev pub foreign_everywhere : List Finding
foreign_everywhere = foreign_in true within.Kernel ++ foreign_in true within.Group

-- ---- the places of a type's words

abbrev pub type_start : ObjectType → Spot
type_start (object.Queue q) = q.namespace
type_start (object.Device q) = q.namespace
type_start (object.Context q) = q.namespace
type_start (object.Event q) = q.namespace
type_start (object.Accessor q) = q.namespace
type_start (object.HostAccessor q) = q.namespace
type_start (object.LocalAccessor q t) = q.namespace
type_start (object.Buffer q t) = q.namespace
type_start (object.Range q d) = q.namespace
type_start (object.Id q d) = q.namespace
type_start (object.NdRange q d) = q.namespace

abbrev pub type_word : ObjectType → Spot
type_word (object.Queue q) = q.name
type_word (object.Device q) = q.name
type_word (object.Context q) = q.name
type_word (object.Event q) = q.name
type_word (object.Accessor q) = q.name
type_word (object.HostAccessor q) = q.name
type_word (object.LocalAccessor q t) = q.name
type_word (object.Buffer q t) = q.name
type_word (object.Range q d) = q.name
type_word (object.Id q d) = q.name
type_word (object.NdRange q d) = q.name
