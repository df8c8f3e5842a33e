use Rattle.sy_num.proofs.Theorems.{converted_identity, converted_in_range, converted_modular, converted_only, converted_to_bool, promotion_keeps}
use Rattle.sy_num.proofs.laws.conversions_are_modular.Goals as goal

pub returns-clause-identity : goal.returns-clause-identity
returns-clause-identity c = converted_identity

pub returns-clause-in_range : goal.returns-clause-in_range
returns-clause-in_range c = converted_in_range

pub returns-clause-modular : goal.returns-clause-modular
returns-clause-modular c = converted_modular

pub returns-clause-only : goal.returns-clause-only
returns-clause-only c = converted_only

pub returns-clause-to_bool : goal.returns-clause-to_bool
returns-clause-to_bool c = converted_to_bool

pub returns-clause-promotion : goal.returns-clause-promotion
returns-clause-promotion c = promotion_keeps
