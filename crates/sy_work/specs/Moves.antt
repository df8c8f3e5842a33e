-- What a fill and a copy write.
use Rattle.std.specs.Prelude.{ℕ, ℤ, ◌+◌, List, [], ◌∷◌, length, replicate, take}
use Rattle.sy_access.specs.declared.cells.Cell.{Cell}
use Rattle.sy_access.specs.declared.cells.Cell.TheVariants.{Buffer}
use Rattle.sy_work.specs.Programs.{Input}

-- numbers written to the elements of a root, one after another
abbrev pub writes_from : ℕ → ℕ → List ℤ → List (Cell × ℤ)
writes_from root e [] = []
writes_from root e (v ∷ values) = (Buffer root e, v) ∷ writes_from root (e + 1) values

-- every element of the target becomes the number
abbrev pub fill_log : Input → ℤ → List (Cell × ℤ)
fill_log target num = writes_from target.0 target.1 (replicate (length target.2) num)

-- the target's elements become the source's, in linear order, as far as both go
abbrev pub copy_log : Input → Input → List (Cell × ℤ)
copy_log source target = writes_from target.0 target.1 (take (length target.2) source.2)
