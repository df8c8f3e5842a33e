use Rattle.sy_num.proofs.Theorems.{common_kind-sym, common_kind_is_promoted, common_kind-same}
use Rattle.sy_num.proofs.laws.common_kind_is_symmetric.Goals as goal

pub returns-clause-symmetric : goal.returns-clause-symmetric
returns-clause-symmetric c = common_kind-sym

pub returns-clause-is_promoted : goal.returns-clause-is_promoted
returns-clause-is_promoted c = common_kind_is_promoted

pub returns-clause-same : goal.returns-clause-same
returns-clause-same c = common_kind-same
