use Rattle.sy_rules.proofs.Firsts.{first_is, nothing_first}
use Rattle.sy_rules.proofs.laws.the_first_broken_rule_is_told.Goals as goal

pub returns-clause-first : goal.returns-clause-first
returns-clause-first c = first_is

pub returns-clause-none : goal.returns-clause-none
returns-clause-none c = nothing_first
