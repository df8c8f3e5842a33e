use Rattle.sy_range.proofs.Numbering.{below_count, one_item, item_at, in_order}
use Rattle.sy_range.proofs.linear_ids.linear_ids_number_a_range.Goals as goal

pub returns-clause-below : goal.returns-clause-below
returns-clause-below c = below_count

pub returns-clause-one_to_one : goal.returns-clause-one_to_one
returns-clause-one_to_one c = one_item

pub returns-clause-onto : goal.returns-clause-onto
returns-clause-onto c = item_at

pub returns-clause-ordered : goal.returns-clause-ordered
returns-clause-ordered c = in_order
