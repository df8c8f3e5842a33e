use Rattle.std.proofs.Common.{◌≡◌, ◌-◌, []}
use Rattle.sy_reading.specs.Exprs.{statements}
use Rattle.sy_reading.specs.Reading.{read_expr, read_stmt}
use Rattle.sy_grammar.proofs.grammar.Grammar.statements.Given as goal

abbrev pub invariant-loop-turn : goal.invariant-loop-turn
invariant-loop-turn g l = statements (read_expr l.self.depth) (read_stmt l.self.depth) l._turn-end [] 0 l.fn.tokens.rest.now ≡ statements (read_expr l.self.depth) (read_stmt l.self.depth) (l._turn-end - l._turn) l.items l.height l.tokens.rest.now
