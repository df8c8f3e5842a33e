use Rattle.std.proofs.Common.{◌∙◌}
use Rattle.sy_num.proofs.Computed.{product_is}
use Rattle.sy_num.proofs.operators.product.Goals as goal

pub returns : goal.returns
returns c = c.fitted.ensures ∙ product_is c.args.kind c.args.x c.args.y c.requires.x_in_range c.requires.y_in_range
