use Rattle.sy_num.proofs.Theorems.{equal, not_equal, less, at_most, greater, at_least}
use Rattle.sy_num.proofs.laws.comparisons_follow_the_order.Goals as goal

pub returns-clause-equal : goal.returns-clause-equal
returns-clause-equal c = equal

pub returns-clause-not_equal : goal.returns-clause-not_equal
returns-clause-not_equal c = not_equal

pub returns-clause-less : goal.returns-clause-less
returns-clause-less c = less

pub returns-clause-at_most : goal.returns-clause-at_most
returns-clause-at_most c = at_most

pub returns-clause-greater : goal.returns-clause-greater
returns-clause-greater c = greater

pub returns-clause-at_least : goal.returns-clause-at_least
returns-clause-at_least c = at_least
