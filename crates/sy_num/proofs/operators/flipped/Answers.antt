use Rattle.std.proofs.Common.{◌∙◌, ap}
use Rattle.sy_num.specs.Scalars.{scalar}
use Rattle.sy_num.specs.Operators.{flipped}
use Rattle.sy_num.proofs.Computed.{not_is}
use Rattle.sy_num.proofs.operators.flipped.Goals as goal

pub returns : goal.returns
unfolding flipped
returns c = c.wrapped.ensures ∙ ap (scalar c.args.kind) (not_is c.args.kind c.args.x c.ranges.x)
