use Rattle.std.proofs.Common.{◌≡◌, arith}
use Rattle.sy_reading.specs.Reading.{readers, read_expr, read_stmt}
use Rattle.sy_cursor.proofs.TurnLemmas.{deeper}
use Rattle.sy_pexpr.proofs.recursion.+parser.Goals as goal

pub read_expr-returns : goal.read_expr-returns
unfolding readers
read_expr-returns t c = rw (deeper (λ n. read_expr n c.args.least c.args.tokens.now.rest.now) c.args.depth (omega arith)) c.chain.ensures

pub read_stmt-returns : goal.read_stmt-returns
unfolding readers
read_stmt-returns t c = rw (deeper (λ n. read_stmt n c.args.tokens.now.rest.now) c.args.depth (omega arith)) c.one_stmt.ensures
