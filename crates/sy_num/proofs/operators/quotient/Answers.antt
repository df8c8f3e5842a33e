use Rattle.std.proofs.Common.{◌∙◌, ap}
use Rattle.sy_num.specs.Operators.{represented}
use Rattle.sy_num.proofs.Computed.{quotient_is, quotient_nonzero}
use Rattle.sy_num.proofs.operators.quotient.Goals as goal

pub returns-else-y-eq0 : goal.returns-else-y-eq0
returns-else-y-eq0 c =
    c.represented.ensures
    ∙ ap (represented c.args.kind) (quotient_is c.args.kind c.args.x c.args.y c.requires.x_in_range c.requires.y_in_range)
    ∙ quotient_nonzero c.args.kind c.args.x c.args.y c.if-y-eq0.false
