use Rattle.std.proofs.Common.{◌∙◌, ap}
use Rattle.sy_num.specs.Scalars.{scalar}
use Rattle.sy_num.specs.Operators.{on_bits}
use Rattle.sy_num.proofs.Computed.{xor_is}
use Rattle.sy_num.proofs.operators.bit_xor.Goals as goal

pub returns : goal.returns
unfolding on_bits
returns c =
    c.wrapped.ensures ∙ ap (scalar c.args.kind) (xor_is c.args.kind c.args.x c.args.y c.ranges.x c.ranges.y)
