use Rattle.std.proofs.Common.{rules, arith}
use Rattle.std.proofs.lemmas.Grind.{common_steps}
use Rattle.sy_reading.specs.Input.{comma_list_from}
use Rattle.sy_reading.specs.Stmts.{one_declarator}
use Rattle.sy_reading.specs.Reading.{read_expr, read_stmt}
use Rattle.sy_cursor.proofs.TurnLemmas.{one_more, no_more}
use Rattle.sy_decls.proofs.declarations.Declarations.declarator_list.Goals as goal

pub returns-in_err-item : goal.returns-in_err-item
unfolding comma_list_from
returns-in_err-item g c =
    let e = one_more (λ n. comma_list_from (one_declarator (read_expr c.args.self.now.below.depth) (read_stmt c.args.self.now.below.depth)) n c.loop-turn.items c.loop-turn.height c.loop-turn.tokens.rest.now) _ c.loop-turn._turn c.loop-turn-test.true c.loop-turn.invariant in
    first_of (search rules, grind (arith, common_steps))

pub returns-then-not-eat : goal.returns-then-not-eat
unfolding comma_list_from
returns-then-not-eat g c =
    let e = one_more (λ n. comma_list_from (one_declarator (read_expr c.args.self.now.below.depth) (read_stmt c.args.self.now.below.depth)) n c.loop-turn.items c.loop-turn.height c.loop-turn.tokens.rest.now) _ c.loop-turn._turn c.loop-turn-test.true c.loop-turn.invariant in
    first_of (search rules, grind (arith, common_steps))

pub loop-turn-preserved : goal.loop-turn-preserved
unfolding comma_list_from
loop-turn-preserved g c =
    let e = one_more (λ n. comma_list_from (one_declarator (read_expr c.args.self.now.below.depth) (read_stmt c.args.self.now.below.depth)) n c.loop-turn.items c.loop-turn.height c.loop-turn.tokens.rest.now) _ c.loop-turn._turn c.loop-turn-test.true c.loop-turn.invariant in
    first_of (search rules, grind (arith, common_steps))

pub returns : goal.returns
unfolding comma_list_from
returns g c =
    let e = no_more (λ n. comma_list_from (one_declarator (read_expr c.args.self.now.below.depth) (read_stmt c.args.self.now.below.depth)) n c.loop-turn.items c.loop-turn.height c.loop-turn.tokens.rest.now) _ c.loop-turn._turn c.loop-turn-test.false c.loop-turn.invariant in
    first_of (search rules, grind (arith, common_steps))
