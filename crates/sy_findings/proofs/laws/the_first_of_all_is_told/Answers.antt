use Rattle.std.specs.Prelude.{None}
use Rattle.sy_findings.proofs.ToldLemmas.{told-append, told_first}
use Rattle.sy_findings.proofs.laws.the_first_of_all_is_told.Goals as goal

pub returns-clause-first : goal.returns-clause-first
returns-clause-first c = λ ds. told_first None ds

pub returns-clause-in_parts : goal.returns-clause-in_parts
returns-clause-in_parts c = told-append

pub returns-clause-later : goal.returns-clause-later
returns-clause-later c = told_first
