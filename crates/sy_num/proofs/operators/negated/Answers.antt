use Rattle.std.proofs.Common.{◌∙◌, ap}
use Rattle.sy_num.specs.Operators.{fitted}
use Rattle.sy_num.proofs.Computed.{negative_is}
use Rattle.sy_num.proofs.operators.negated.Goals as goal

pub returns : goal.returns
returns c = c.fitted.ensures ∙ ap (fitted c.args.kind) (negative_is c.args.kind c.args.x c.requires)
