-- Devices as runs of compute units.
use Rattle.std.specs.Prelude.{ℕ, ◌+◌, ◌*◌, ◌/◌, Bool, ◌&&◌, ◌||◌, ◌==◌, nat_lt, nat_le, List, map}
use Rattle.std.specs.List.{range_with_len}
use Rattle.sy_access.specs.declared.devices.Device.{Device}

-- the device has the unit k
abbrev pub has_unit : Device → ℕ → Bool
has_unit d k = nat_le d.first k && nat_lt k (d.first + d.units)

-- the first device has no unit that the second lacks
unfoldable pub is_part : Device → Device → Bool
is_part d whole = d.units == 0 || (nat_le whole.first d.first && nat_le (d.first + d.units) (whole.first + whole.units))

-- the k-th part of n units
abbrev pub part_at : Device → ℕ → ℕ → Device
part_at d n k = record { first = d.first + k * n; units = n }

-- as many parts of n units as fit, in order
unfoldable pub parts : Device → ℕ → List Device
parts d n = map (part_at d n) (range_with_len 0 (d.units / n))
