use Rattle.std.proofs.Common.{rules, arith}
use Rattle.std.proofs.lemmas.Grind.{common_steps}
use Rattle.sy_reading.specs.Input.{comma_list_from}
use Rattle.sy_reading.specs.Parts.{one_parameter}
use Rattle.sy_cursor.proofs.TurnLemmas.{one_more, no_more}
use Rattle.sy_cursor.proofs.parts.parameter_list.Goals as goal

pub returns-in_err-item : goal.returns-in_err-item
unfolding comma_list_from
returns-in_err-item c =
    let e = one_more (λ n. comma_list_from one_parameter n c.loop-turn.items c.loop-turn.height c.loop-turn.tokens.rest.now) _ c.loop-turn._turn c.loop-turn-test.true c.loop-turn.invariant in
    first_of (search rules, grind (arith, common_steps))

pub returns-then-not-eat : goal.returns-then-not-eat
unfolding comma_list_from
returns-then-not-eat c =
    let e = one_more (λ n. comma_list_from one_parameter n c.loop-turn.items c.loop-turn.height c.loop-turn.tokens.rest.now) _ c.loop-turn._turn c.loop-turn-test.true c.loop-turn.invariant in
    first_of (search rules, grind (arith, common_steps))

pub loop-turn-preserved : goal.loop-turn-preserved
unfolding comma_list_from
loop-turn-preserved c =
    let e = one_more (λ n. comma_list_from one_parameter n c.loop-turn.items c.loop-turn.height c.loop-turn.tokens.rest.now) _ c.loop-turn._turn c.loop-turn-test.true c.loop-turn.invariant in
    first_of (search rules, grind (arith, common_steps))

pub returns : goal.returns
unfolding comma_list_from
returns c =
    let e = no_more (λ n. comma_list_from one_parameter n c.loop-turn.items c.loop-turn.height c.loop-turn.tokens.rest.now) _ c.loop-turn._turn c.loop-turn-test.false c.loop-turn.invariant in
    first_of (search rules, grind (arith, common_steps))
