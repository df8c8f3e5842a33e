use Rattle.std.proofs.Common.{rules, arith}
use Rattle.std.proofs.lemmas.Grind.{common_steps}
use Rattle.sy_reading.specs.Exprs.{postfixes}
use Rattle.sy_reading.specs.Reading.{read_expr, read_stmt}
use Rattle.sy_cursor.proofs.TurnLemmas.{one_more, no_more}
use Rattle.sy_postfix.proofs.postfix.PostfixExpressions.postfixes.Goals as goal

pub returns-then-binds-lt13 : goal.returns-then-binds-lt13
unfolding postfixes
returns-then-binds-lt13 g c =
    let e = one_more (λ n. postfixes (read_expr c.args.self.now.below.depth) (read_stmt c.args.self.now.below.depth) n c.loop-turn.base c.loop-turn.tokens.rest.now) 65 c.loop-turn._turn c.loop-turn-test.true c.loop-turn.invariant in
    first_of (search rules, grind (arith, common_steps))

pub returns-in_err-base : goal.returns-in_err-base
unfolding postfixes
returns-in_err-base g c =
    let e = one_more (λ n. postfixes (read_expr c.args.self.now.below.depth) (read_stmt c.args.self.now.below.depth) n c.loop-turn.base c.loop-turn.tokens.rest.now) 65 c.loop-turn._turn c.loop-turn-test.true c.loop-turn.invariant in
    first_of (search rules, grind (arith, common_steps))

pub loop-turn-preserved : goal.loop-turn-preserved
unfolding postfixes
loop-turn-preserved g c =
    let e = one_more (λ n. postfixes (read_expr c.args.self.now.below.depth) (read_stmt c.args.self.now.below.depth) n c.loop-turn.base c.loop-turn.tokens.rest.now) 65 c.loop-turn._turn c.loop-turn-test.true c.loop-turn.invariant in
    first_of (search rules, grind (arith, common_steps))

pub returns : goal.returns
unfolding postfixes
returns g c =
    let e = no_more (λ n. postfixes (read_expr c.args.self.now.below.depth) (read_stmt c.args.self.now.below.depth) n c.loop-turn.base c.loop-turn.tokens.rest.now) 65 c.loop-turn._turn c.loop-turn-test.false c.loop-turn.invariant in
    first_of (search rules, grind (arith, common_steps))
