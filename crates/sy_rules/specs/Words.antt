-- The words of the library that stand in a source as names.
use Rattle.std.specs.Prelude.{ℕ, Bool, false, ◌&&◌, if◌then◌else◌, List, [], ◌∷◌, Option, Some, None, codes}
use Rattle.std.specs.Str.{bytes_eq}
use Rattle.sy_typed.specs.declared.things.ErrorName.{ErrorName}
use Rattle.sy_typed.specs.declared.things.ErrorName.TheVariants as name
use Rattle.sy_typed.specs.declared.things.Member.{Member}
use Rattle.sy_typed.specs.declared.things.Member.TheVariants as member
use Rattle.sy_tree.specs.declared.parts.TemplateArgument.{TemplateArgument}
use Rattle.sy_tree.specs.declared.parts.TemplateArgument.TheVariants as template

abbrev pub looked_up : {T : Type 0} → List (List ℕ × T) → List ℕ → Option T
looked_up [] text = None
looked_up (row ∷ rows) text = if bytes_eq row.0 text then Some row.1 else looked_up rows text

-- (SYCL 2020, "Error codes")
abbrev pub error_names : List (List ℕ × ErrorName)
error_names =
    (codes "runtime", name.Runtime)
    ∷ (codes "nd_range", name.NdRange)
    ∷ (codes "kernel_argument", name.KernelArgument)
    ∷ (codes "invalid", name.Invalid)
    ∷ (codes "memory_allocation", name.MemoryAllocation)
    ∷ []

abbrev pub member_names : List (List ℕ × Member)
member_names =
    (codes "submit", member.Submit)
    ∷ (codes "wait", member.Wait)
    ∷ (codes "wait_and_throw", member.WaitAndThrow)
    ∷ (codes "get_device", member.GetDevice)
    ∷ (codes "create_sub_devices", member.CreateSubDevices)
    ∷ (codes "get_info", member.MaxComputeUnits)
    ∷ (codes "get_range", member.GetRange)
    ∷ (codes "size", member.Size)
    ∷ (codes "push_back", member.PushBack)
    ∷ (codes "data", member.Data)
    ∷ (codes "emplace_back", member.EmplaceBack)
    ∷ (codes "join", member.Join)
    ∷ (codes "code", member.Code)
    ∷ (codes "single_task", member.SingleTask)
    ∷ (codes "parallel_for", member.ParallelFor)
    ∷ (codes "fill", member.Fill)
    ∷ (codes "copy", member.Copy)
    ∷ (codes "depends_on", member.DependsOn)
    ∷ (codes "get", member.Get)
    ∷ (codes "get_id", member.GetId)
    ∷ (codes "get_linear_id", member.GetLinearId)
    ∷ (codes "get_global_id", member.GetGlobalId)
    ∷ (codes "get_local_id", member.GetLocalId)
    ∷ (codes "get_global_range", member.GetGlobalRange)
    ∷ (codes "get_local_range", member.GetLocalRange)
    ∷ (codes "get_group_range", member.GetGroupRange)
    ∷ (codes "get_group", member.GetGroup)
    ∷ (codes "get_global_linear_id", member.GetGlobalLinearId)
    ∷ (codes "get_local_linear_id", member.GetLocalLinearId)
    ∷ (codes "get_group_linear_id", member.GetGroupLinearId)
    ∷ (codes "combine", member.Combine)
    ∷ []

abbrev pub error_named : List ℕ → Option ErrorName
error_named = looked_up error_names

abbrev pub member_named : List ℕ → Option Member
member_named = looked_up member_names

-- `info::of::word`
abbrev pub is_information : List ℕ → List ℕ → TemplateArgument → Bool
is_information of word (template.Information q a b) = bytes_eq of a.text && bytes_eq word b.text
is_information of word (template.Kernel c x) = false

abbrev pub main_name : List ℕ
main_name = codes "main"
