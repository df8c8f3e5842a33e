-- The program of scripts and a table.
use Rattle.std.specs.Prelude.{List}
use Rattle.sy_work.specs.Programs.{Program}
use Rattle.sy_scripted.specs.declared.scripts.Line.{Line}
use Rattle.sy_scripted.specs.declared.tables.TableRow.{TableRow}
use Rattle.sy_scripted.specs.Scripts.{scripted}
use Rattle.sy_scripted.specs.Tables.{tabled}

-- its bodies ask what the scripts say, and its kernels do what the table says
abbrev pub program_of : List (List Line) → List TableRow → Program
program_of scripts table = record { main = 0; next = scripted scripts; outcome = tabled table }
