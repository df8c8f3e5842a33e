-- Which global and local ranges make an ND-range.
use Rattle.std.specs.Prelude.{ℕ, Bool, ◌&&◌, nat_le, List}
use Rattle.sy_range.specs.Shapes.{divides}
use Rattle.sy_range.specs.LinearIds.{product}

-- each local extent divides its global one and isn't 0, and a work-group has at most 1,024 items
abbrev pub is_nd : List ℕ → List ℕ → Bool
is_nd global local = divides local global && nat_le (product local) 1024
