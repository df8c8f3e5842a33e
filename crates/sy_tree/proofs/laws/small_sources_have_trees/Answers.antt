use Rattle.sy_tree.proofs.Examples.{main_is_unit, return_derives}
use Rattle.sy_tree.proofs.laws.small_sources_have_trees.Goals as goal

pub returns-clause-unit : goal.returns-clause-unit
returns-clause-unit c = main_is_unit

pub returns-clause-statement : goal.returns-clause-statement
returns-clause-statement c = return_derives
