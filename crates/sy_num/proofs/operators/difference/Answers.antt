use Rattle.std.proofs.Common.{◌∙◌, ap}
use Rattle.sy_num.specs.Operators.{fitted}
use Rattle.sy_num.proofs.Computed.{difference_is}
use Rattle.sy_num.proofs.operators.difference.Goals as goal

pub returns : goal.returns
returns c =
    c.fitted.ensures
    ∙ ap (fitted c.args.kind) (difference_is c.args.kind c.args.x c.args.y c.requires.x_in_range c.requires.y_in_range)
