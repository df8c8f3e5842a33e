-- When a list of inputs fits a command.
use Rattle.std.specs.Prelude.{◌≡◌, ◌≢◌, ℕ, ℤ, ◌+◌, ◌-◌, ◌^◌, ◌<◌, ◌≤◌, ◌&&◌, ◌==◌, nat_le, List, length, Option, Some, None, slice_get, if◌then◌else◌, All, AllPairs, ⊤}
use Rattle.sy_work.specs.Programs.{Input}
use Rattle.sy_work.specs.declared.commands.Command.{Command}
use Rattle.sy_work.specs.declared.commands.Command.TheVariants.{Single, Plain, Nd, Fill, Copy, Reduce}

-- the number that the input has for the element e of the root
abbrev pub number_in : Input → ℕ → ℕ → Option ℤ
number_in x root e = if x.0 == root && nat_le x.1 e then slice_get x.2 (e - x.1) else None

-- the number at an index of an input's list
abbrev pub number_at_index : Option Input → ℕ → Option ℤ
number_at_index None index = None
number_at_index (Some x) index = slice_get x.2 index

-- two inputs aren't of the same elements
abbrev pub Differ : Input → Input → Type 0
Differ x y = x.0 ≡ y.0 → x.1 ≡ y.1 → length x.2 ≢ length y.2

-- an element that lies in both has one number
abbrev pub Agree : Input → Input → Type 0
Agree x y = (root e : ℕ) (v w : ℤ) → number_in x root e ≡ Some v → number_in y root e ≡ Some w → v ≡ w

-- the number of the list that a reduction's items put their results into
abbrev pub results_number : ℕ
results_number = 4294967295

-- the inputs that the command names by their places are there
abbrev pub HasPlaces : Command → List Input → Type 0
HasPlaces (Single kernel) inputs = ⊤
HasPlaces (Plain range kernel) inputs = ⊤
HasPlaces (Nd range kernel) inputs = ⊤
HasPlaces (Fill target num) inputs = target < length inputs
HasPlaces (Copy source target) inputs = (source < length inputs) × (target < length inputs)
HasPlaces (Reduce reduction) inputs = ((x : Input) × (slice_get inputs reduction.need ≡ Some x) × (length x.2 ≡ 1)) × All (λ x. x.0 ≢ results_number) inputs

-- the inputs fit the command
pub record InputsFit (command : Command) (inputs : List Input) : Type 0 where
  pub small : All (λ (x : Input). length x.2 ≤ 2 ^ 22) inputs
  pub differ : AllPairs Differ inputs
  pub agree : AllPairs Agree inputs
  pub ends : All (λ (x : Input). x.1 + length x.2 ≤ 2 ^ 32) inputs
  pub places : HasPlaces command inputs
