use Rattle.sy_num.proofs.Theorems.{unsigned_sum, unsigned_difference, unsigned_product}
use Rattle.sy_num.proofs.laws.unsigned_arithmetic_is_modular.Goals as goal

pub returns-clause-sum : goal.returns-clause-sum
returns-clause-sum c = unsigned_sum

pub returns-clause-difference : goal.returns-clause-difference
returns-clause-difference c = unsigned_difference

pub returns-clause-product : goal.returns-clause-product
returns-clause-product c = unsigned_product
