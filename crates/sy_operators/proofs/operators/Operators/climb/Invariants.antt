use Rattle.std.proofs.Common.{◌≡◌, ◌-◌}
use Rattle.sy_reading.specs.Exprs.{climb}
use Rattle.sy_reading.specs.Reading.{read_expr, read_stmt}
use Rattle.sy_operators.proofs.operators.Operators.climb.Given as goal

abbrev pub invariant-loop-turn : goal.invariant-loop-turn
invariant-loop-turn g l = climb (read_expr l.self.below.depth) (read_stmt l.self.below.depth) 65 l.least l.fn.left l.fn.tokens.rest.now ≡ climb (read_expr l.self.below.depth) (read_stmt l.self.below.depth) (65 - l._turn) l.least l.left l.tokens.rest.now
