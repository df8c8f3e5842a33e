-- What is written into the elements of roots, as a log.
use Rattle.std.specs.Prelude.{ℕ, ℤ, ◌+◌, ◌<◌, ◌^◌, List, length}
use Rattle.sy_access.specs.declared.cells.Cell.{Cell}
use Rattle.sy_work.specs.Moves.{writes_from}
use Rattle.sy_copies.specs.declared.written.Kind.{Kind}
use Rattle.sy_copies.specs.declared.written.Kind.TheVariants.{Log, Run}

abbrev pub log_of : Kind → List (Cell × ℤ)
log_of (Log log) = log.now
log_of (Run root from values) = writes_from root from values.now

-- the elements of a run have numbers
abbrev pub Fits : Kind → Type 0
Fits (Log log) = Unit {0}
Fits (Run root from values) = from + length values.now < 2 ^ 32
