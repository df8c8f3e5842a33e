-- The command groups of a generated source.
use Rattle.std.specs.Prelude.{ℕ, ◌+◌, ◌%◌, List, ◌++◌, codes, decimal, if◌then◌else◌, ◌==◌}
use Rattle.sy_gen.specs.declared.Function.{Function}
use Rattle.sy_gen.specs.declared.Function.TheVariants.{Add, Mul, Flip}
use Rattle.sy_gen.specs.declared.Group.{Group}
use Rattle.sy_gen.specs.Draws.{draw}

abbrev pub function_of : ℕ → Function
function_of r = if r % 3 == 0 then Add else (if r % 3 == 1 then Mul else Flip)

-- the group that five draws make: the other buffer is one of the three that are not the target
abbrev pub group_of : ℕ → ℕ → ℕ → ℕ → ℕ → Group
group_of first second third fourth fifth = record {
  function = function_of first;
  queue = second % 2;
  target = third % 4;
  other = (third % 4 + 1 + fourth % 3) % 4;
  number = fifth % 100;
}

-- the group that follows so many draws
abbrev pub group_after : ℕ → ℕ → Group
group_after seed n = group_of (draw seed (n + 1)) (draw seed (n + 2)) (draw seed (n + 3)) (draw seed (n + 4)) (draw seed (n + 5))

abbrev pub name_of : Function → List ℕ
name_of Add = codes "add"
name_of Mul = codes "mul"
name_of Flip = codes "flip"

-- a group's line
abbrev pub line_of : Group → List ℕ
line_of group =
    codes "  " ++ name_of group.function ++ codes "(q" ++ decimal group.queue ++ codes ", b" ++ decimal group.target
    ++ codes ", b" ++ decimal group.other ++ codes ", " ++ decimal group.number ++ codes "u);\n"
