use Rattle.std.proofs.Common.{rules, arith}
use Rattle.std.proofs.lemmas.Grind.{common_steps}
use Rattle.sy_punit.specs.Reader.{each, some_left, file_item}
use Rattle.sy_cursor.proofs.TurnLemmas.{one_more, no_more}
use Rattle.sy_punit.proofs.unit.file_items.Goals as goal

pub returns-then-not-some_left : goal.returns-then-not-some_left
unfolding each
returns-then-not-some_left c =
    let e = one_more (λ n. each some_left file_item n c.loop-turn.items c.loop-turn.tokens.rest.now) _ c.loop-turn._turn c.loop-turn-test.true c.loop-turn.invariant in
    first_of (search rules, grind (arith, common_steps))

pub returns-in_err-item : goal.returns-in_err-item
unfolding each
returns-in_err-item c =
    let e = one_more (λ n. each some_left file_item n c.loop-turn.items c.loop-turn.tokens.rest.now) _ c.loop-turn._turn c.loop-turn-test.true c.loop-turn.invariant in
    first_of (search rules, grind (arith, common_steps))

pub loop-turn-preserved : goal.loop-turn-preserved
unfolding each
loop-turn-preserved c =
    let e = one_more (λ n. each some_left file_item n c.loop-turn.items c.loop-turn.tokens.rest.now) _ c.loop-turn._turn c.loop-turn-test.true c.loop-turn.invariant in
    first_of (search rules, grind (arith, common_steps))

pub returns : goal.returns
unfolding each
returns c =
    let e = no_more (λ n. each some_left file_item n c.loop-turn.items c.loop-turn.tokens.rest.now) _ c.loop-turn._turn c.loop-turn-test.false c.loop-turn.invariant in
    first_of (search rules, grind (arith, common_steps))
