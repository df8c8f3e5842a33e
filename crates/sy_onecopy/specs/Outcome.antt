-- What a command is given, and what it leaves.
use Rattle.std.specs.Prelude.{ℕ, ◌-◌, ℤ, List, [], map, take, drop, Option, Some, None, slice_get}
use Rattle.sy_access.specs.declared.access.Need.{Need}
use Rattle.sy_access.specs.declared.cells.Cell.{Cell}
use Rattle.sy_access.specs.declared.cells.Cell.TheVariants as cell
use Rattle.sy_work.specs.Programs.{Input}
use Rattle.sy_onecopy.specs.declared.Buffer.{Buffer}
use Rattle.sy_needs.specs.Each.{each_from}
use Rattle.sy_needs.specs.Elements.{at_start, cell_after}

abbrev pub values_of : Option Buffer → List ℤ
values_of None = []
values_of (Some x) = x.values

abbrev pub values_at : List Buffer → ℕ → List ℤ
values_at buffers b = values_of (slice_get buffers b)

-- the elements from one place up to another
unfoldable pub run_of : List ℤ → ℕ → ℕ → List ℤ
run_of values from to = take (to - from) (drop from values)

-- the numbers of one need, as the command starts
unfoldable pub input : List Buffer → List Need → Need → Input
input buffers needs n = (n.buffer, n.from, each_from (at_start needs n.buffer) n.from (run_of (values_at buffers n.buffer) n.from n.to))

unfoldable pub inputs : List Buffer → List Need → List Input
inputs buffers needs = map (input buffers needs) needs

unfoldable pub buffer_after : List Need → List (Cell × ℤ) → ℕ → Buffer → Buffer
buffer_after needs log b x = record x { values = each_from (cell_after needs log b) 0 x.values }

-- the buffers after a command that wrote this log
unfoldable pub buffers_after : List Need → List (Cell × ℤ) → List Buffer → List Buffer
buffers_after needs log buffers = each_from (buffer_after needs log) 0 buffers
