use Rattle.std.proofs.Common.{ap}
use Rattle.sy_rules.specs.Faults.{first_broken}
use Rattle.sy_rules.specs.Units.{broken_rules}
use Rattle.sy_rules.proofs.Firsts.{nothing_first}
use Rattle.sy_rules.proofs.laws.accepted_sources_break_no_rule.Goals as goal

pub returns-clause-accepted : goal.returns-clause-accepted
returns-clause-accepted c = λ u. nothing_first (broken_rules u)

pub returns-clause-unbroken : goal.returns-clause-unbroken
returns-clause-unbroken c = λ u e. ap first_broken e
