-- What a source is to the runtime: what its bodies ask, and what its commands do.
use Rattle.std.specs.Prelude.{List, ℕ}
use Rattle.sy_typed.specs.declared.tree.Program.{Program as TypedProgram}
use Rattle.sy_work.specs.Programs.{Program}
use Rattle.sy_meaning.specs.Bodies.{Body, bodies_of}
use Rattle.sy_meaning.specs.Next.{item, next}
use Rattle.sy_meaning.specs.Kernels.{Items, outcome}

abbrev pub items_of : List Body → Items
items_of bodies k = item bodies k.turns k.code k.captures

-- the program of a typed tree, for so many turns
abbrev pub program_of : TypedProgram → ℕ → Program
program_of p limit =
    record { main = p.main; next = next (bodies_of p) limit; outcome = outcome (items_of (bodies_of p)) }
