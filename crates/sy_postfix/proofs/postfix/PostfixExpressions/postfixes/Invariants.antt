use Rattle.std.proofs.Common.{◌≡◌, ◌-◌}
use Rattle.sy_reading.specs.Exprs.{postfixes}
use Rattle.sy_reading.specs.Reading.{read_expr, read_stmt}
use Rattle.sy_postfix.proofs.postfix.PostfixExpressions.postfixes.Given as goal

abbrev pub invariant-loop-turn : goal.invariant-loop-turn
invariant-loop-turn g l = postfixes (read_expr l.self.below.depth) (read_stmt l.self.below.depth) 65 l.fn.base l.fn.tokens.rest.now ≡ postfixes (read_expr l.self.below.depth) (read_stmt l.self.below.depth) (65 - l._turn) l.base l.tokens.rest.now
