use Rattle.std.proofs.Common.{◌≡◌, ◌-◌, []}
use Rattle.sy_reading.specs.Input.{comma_list_from}
use Rattle.sy_reading.specs.Exprs.{one_argument}
use Rattle.sy_reading.specs.Reading.{read_expr, read_stmt}
use Rattle.sy_grammar.proofs.grammar.Grammar.argument_list.Given as goal

abbrev pub invariant-loop-turn : goal.invariant-loop-turn
invariant-loop-turn g l = comma_list_from (one_argument (read_expr l.self.depth) (read_stmt l.self.depth)) l._turn-end [] 0 l.fn.tokens.rest.now ≡ comma_list_from (one_argument (read_expr l.self.depth) (read_stmt l.self.depth)) (l._turn-end - l._turn) l.items l.height l.tokens.rest.now
