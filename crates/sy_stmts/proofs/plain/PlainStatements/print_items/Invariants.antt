use Rattle.std.proofs.Common.{◌≡◌, ◌-◌, []}
use Rattle.sy_reading.specs.Stmts.{print_items_from}
use Rattle.sy_reading.specs.Reading.{read_expr, read_stmt}
use Rattle.sy_stmts.proofs.plain.PlainStatements.print_items.Given as goal

abbrev pub invariant-loop-turn : goal.invariant-loop-turn
invariant-loop-turn g l = print_items_from (read_expr l.self.below.depth) (read_stmt l.self.below.depth) l._turn-end [] 0 l.fn.tokens.rest.now ≡ print_items_from (read_expr l.self.below.depth) (read_stmt l.self.below.depth) (l._turn-end - l._turn) l.items l.height l.tokens.rest.now
