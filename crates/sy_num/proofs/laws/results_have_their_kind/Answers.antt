use Rattle.sy_num.proofs.Theorems.{kind_of_result, range_of_result, kind_of_result_one, range_of_result_one}
use Rattle.sy_num.proofs.laws.results_have_their_kind.Goals as goal

pub returns-clause-kind : goal.returns-clause-kind
returns-clause-kind c = kind_of_result

pub returns-clause-in_range : goal.returns-clause-in_range
returns-clause-in_range c = range_of_result

pub returns-clause-kind_one : goal.returns-clause-kind_one
returns-clause-kind_one c = kind_of_result_one

pub returns-clause-in_range_one : goal.returns-clause-in_range_one
returns-clause-in_range_one c = range_of_result_one
