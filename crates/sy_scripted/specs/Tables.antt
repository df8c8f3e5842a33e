-- The outcomes of commands by a table of their kernels' code numbers.
use Rattle.std.specs.Prelude.{ℕ, ℤ, ◌==◌, List, [], Option, Some, None, find, slice_get}
use Rattle.sy_work.specs.Programs.{Input, OutcomeOf}
use Rattle.sy_work.specs.Moves.{fill_log, copy_log}
use Rattle.sy_work.specs.declared.commands.Command.TheVariants.{Single, Plain, Nd, Fill, Copy, Reduce}
use Rattle.sy_work.specs.declared.commands.Outcome.{Outcome}
use Rattle.sy_work.specs.declared.commands.Outcome.TheVariants.{Wrote}
use Rattle.sy_scripted.specs.declared.tables.TableRow.{TableRow}

-- what a kernel does whose row was found; with none it writes nothing
abbrev pub outcome_of : Option TableRow → Outcome
outcome_of None = Wrote []
outcome_of (Some row) = row.outcome

-- the outcome of the first row with the code
abbrev pub outcome_at : List TableRow → ℕ → Outcome
outcome_at rows code = outcome_of (find (λ row. row.code == code) rows)

-- a fill of the target, if it is there
abbrev pub fill_of : Option Input → ℤ → Outcome
fill_of None num = Wrote []
fill_of (Some target) num = Wrote (fill_log target num)

-- a copy from the source to the target, if they are there
abbrev pub copy_of : Option Input → Option Input → Outcome
copy_of None target = Wrote []
copy_of (Some source) None = Wrote []
copy_of (Some source) (Some target) = Wrote (copy_log source target)

abbrev pub tabled : List TableRow → OutcomeOf
tabled rows (Single kernel) inputs = outcome_at rows kernel.code
tabled rows (Plain range kernel) inputs = outcome_at rows kernel.code
tabled rows (Nd range kernel) inputs = outcome_at rows kernel.code
tabled rows (Fill target num) inputs = fill_of (slice_get inputs target) num
tabled rows (Copy source target) inputs = copy_of (slice_get inputs source) (slice_get inputs target)
tabled rows (Reduce reduction) inputs = outcome_at rows reduction.kernel.code
