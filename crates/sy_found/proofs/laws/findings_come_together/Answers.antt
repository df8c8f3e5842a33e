use Rattle.sy_found.proofs.FoundLemmas.{in_parts, in_statements, first_in}
use Rattle.sy_found.proofs.laws.findings_come_together.Goals as goal

pub returns-clause-in_parts : goal.returns-clause-in_parts
returns-clause-in_parts c = in_parts

pub returns-clause-in_statements : goal.returns-clause-in_statements
returns-clause-in_statements c = in_statements

pub returns-clause-first : goal.returns-clause-first
returns-clause-first c = first_in
